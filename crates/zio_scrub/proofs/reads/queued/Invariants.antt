use Rattle.std.proofs.Common.{◌≡◌, length}
use Rattle.std.specs.List.{AllByRecursion}
use Rattle.zio_scrub.specs.Queues.{HaveAll, IsOrdered}
use Rattle.zio_scrub.specs.Reads.{IsReadOf, leaf_at}
use Rattle.zio_scrub.proofs.reads.queued.Given as goal

abbrev pub invariant-loop-number : goal.invariant-loop-number
invariant-loop-number l = record {
  have : HaveAll (IsReadOf l.copies) (leaf_at l.copies) l.number l.queues.leaves.items;
  order : AllByRecursion IsOrdered l.queues.leaves.items;
  count : length l.queues.leaves.items ≡ l.leaves;
}

use Rattle.std.proofs.Common.{◌≡◌, ◌≤◌, length, drop}
use Rattle.std.specs.List.{AllByRecursion}
use Rattle.zio_scrub.specs.Queues.{HaveAll, IsOrdered}
use Rattle.zio_scrub.specs.Repairs.{IsRepairOf, leaf_of}
use Rattle.zio_scrub.proofs.repairs.queued.Given as goal

abbrev pub invariant-loop-repair : goal.invariant-loop-repair
invariant-loop-repair l = record {
  rest : l.repair-iterator ≡ drop l.number l.fn.repairs;
  within : l.number ≤ length l.fn.repairs;
  have : HaveAll (IsRepairOf l.fn.repairs) (leaf_of l.fn.repairs) l.number l.queues.leaves.items;
  order : AllByRecursion IsOrdered l.queues.leaves.items;
  count : length l.queues.leaves.items ≡ l.fn.leaves;
}

use Rattle.std.proofs.Common.{◌≡◌, ◌+◌, ◌<◌, ◌^◌, [], length}
use Rattle.zio_audit.specs.Completions.{completions_from}
use Rattle.zio_audit.specs.Marks.{meet_each}
use Rattle.zio_audit.specs.Verdicts.{orders_of}
use Rattle.zio_audit.proofs.completions.unmatched_round.Given as goal

abbrev pub invariant-loop-parents : goal.invariant-loop-parents
invariant-loop-parents l = record {
  many : l.round + length l.later ≡ length l.initial.later;
  few : 0 < l.round → length l.initial.later < 2 ^ 32;
  met : meet_each l.parents.items l.initial.marks.items (completions_from [] 1 (orders_of l.initial.later))
      ≡ meet_each l.parents.items l.marks.items (completions_from [] (l.round + 1) (orders_of l.later));
}

abbrev pub decreases-loop-parents : goal.decreases-loop-parents
decreases-loop-parents l = length l.later

use Rattle.std.proofs.Common.{◌≡◌, ◌<◌, drop, length, slice_index_or}
use Rattle.zio_turns.specs.AtLeaves.{eligible_at, eligible_from}
use Rattle.zio_turns.proofs.leaf_queues.Queues.eligible_at.Given as goal

abbrev pub invariant-loop-leaf : goal.invariant-loop-leaf
invariant-loop-leaf l = record {
  there : l.before < length (eligible_from l.leaf (drop l.leaf l.self.leaves.items));
  same : slice_index_or
      (eligible_from l.leaf (drop l.leaf l.self.leaves.items)) l.before 0 ≡ eligible_at l.self.leaves.items l.k;
}

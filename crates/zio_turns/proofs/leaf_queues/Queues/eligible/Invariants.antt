use Rattle.std.proofs.Common.{◌≡◌, ◌+◌, ◌≤◌, drop, length}
use Rattle.zio_turns.specs.AtLeaves.{eligible_from, eligible_leaves}
use Rattle.zio_turns.proofs.leaf_queues.Queues.eligible.Given as goal

abbrev pub invariant-loop-leaf : goal.invariant-loop-leaf
invariant-loop-leaf l = record {
  counted : l.count + length (eligible_from l.leaf (drop l.leaf l.self.leaves.items)) ≡ length
      (eligible_leaves l.self.leaves.items);
  most : l.count ≤ l.leaf;
}

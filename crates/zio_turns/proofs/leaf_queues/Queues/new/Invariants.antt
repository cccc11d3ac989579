use Rattle.std.proofs.Common.{◌≡◌}
use Rattle.std.specs.Prelude.{replicate}
use Rattle.zio_turns.specs.AtLeaves.{no_waits}
use Rattle.zio_turns.proofs.leaf_queues.Queues.new.Given as goal

abbrev pub invariant-loop-leaf : goal.invariant-loop-leaf
invariant-loop-leaf l = l.leaves.items ≡ replicate l._leaf no_waits

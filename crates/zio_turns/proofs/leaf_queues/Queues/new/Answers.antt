use Rattle.std.proofs.Common.{sym, subst}
use Rattle.zio_groups.specs.LeafQueues.{Waits}
use Rattle.std.specs.Prelude.{List}
use Rattle.zio_turns.specs.AtLeaves.{AreInOrder}
use Rattle.zio_turns.proofs.KeyTimes.{fresh_order}
use Rattle.zio_turns.proofs.leaf_queues.Queues.new.Goals as goal

pub returns-clause-order : goal.returns-clause-order
returns-clause-order c = subst (λ (leaves : List Waits). AreInOrder leaves) (sym c.loop-leaf.invariant)
    (fresh_order c.loop-leaf._leaf)

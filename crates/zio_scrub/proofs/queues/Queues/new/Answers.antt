use Rattle.std.proofs.Common.{sym, subst, List}
use Rattle.std.specs.List.{AllByRecursion}
use Rattle.zio_groups.specs.LeafQueues.{Waits}
use Rattle.zio_scrub.specs.Queues.{IsOrdered}
use Rattle.zio_scrub.proofs.WaitLemmas.{fresh_order}
use Rattle.zio_scrub.proofs.queues.Queues.new.Goals as goal

pub returns-clause-order : goal.returns-clause-order
returns-clause-order c = subst (λ (leaves : List Waits). AllByRecursion IsOrdered leaves) (sym c.loop-leaf.invariant)
    (fresh_order c.loop-leaf._leaf)

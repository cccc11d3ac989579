use Rattle.std.proofs.Common.{arith}
use Rattle.zio_scrub.proofs.WaitLemmas.{none_anywhere}
use Rattle.zio_scrub.proofs.queues.Queues.next.Goals as goal

pub returns-clause-leaf : goal.returns-clause-leaf
returns-clause-leaf c =
    none_anywhere c.args.self.now.leaves.items c.requires.order
    (λ k l. c.loop-leaf-2.invariant.none k (let e = c.loop-leaf-2.invariant.end in omega arith))

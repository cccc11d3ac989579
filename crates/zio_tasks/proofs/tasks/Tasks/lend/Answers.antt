use Rattle.zio_tasks.proofs.Moves.{spares, gathers}
use Rattle.zio_tasks.proofs.Settling.{hand_lent}
use Rattle.zio_tasks.proofs.tasks.Tasks.lend.Goals as goal

pub another-spare-requires-clause-rule : goal.another-spare-requires-clause-rule
another-spare-requires-clause-rule g c = spares _ _

pub absorb-requires-clause-rule : goal.absorb-requires-clause-rule
absorb-requires-clause-rule g c =
    gathers _ _ _ _ (hand_lent c.args.self.now c.args.pass.now c.args.place c.index-queue.result.now c.index_mut.result.now c.replace-theirs.result c.requires.pass c.requires.place c.index-queue.ensures c.index_mut.ensures.value c.replace-theirs.ensures.value)

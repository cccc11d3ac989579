use Rattle.zio_tasks.proofs.Moves.{spares}
use Rattle.zio_tasks.proofs.tasks.Tasks.spare.Goals as goal

pub another-requires-clause-rule : goal.another-requires-clause-rule
another-requires-clause-rule g c = spares _ _

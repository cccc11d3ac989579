use Rattle.zio_tasks.proofs.Moves.{take_goes}
use Rattle.zio_tasks.proofs.part.take_from.Goals as goal

pub pop_as-requires-clause-rule : goal.pop_as-requires-clause-rule
pop_as-requires-clause-rule g c = take_goes _ _ c.requires.hand

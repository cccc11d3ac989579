use Rattle.zio_tasks.proofs.Moves.{whole_goes}
use Rattle.zio_tasks.proofs.part.take_whole.Goals as goal

pub pop_as-requires-clause-rule : goal.pop_as-requires-clause-rule
pop_as-requires-clause-rule g c = whole_goes _ _ c.requires.all c.requires.hand

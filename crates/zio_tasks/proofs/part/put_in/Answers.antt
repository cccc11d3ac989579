use Rattle.zio_tasks.proofs.Moves.{put_goes}
use Rattle.zio_tasks.proofs.part.put_in.Goals as goal

pub push_as-requires-clause-rule : goal.push_as-requires-clause-rule
push_as-requires-clause-rule g c = put_goes _ _ _ _ c.requires.hand

use Rattle.zio_tasks.proofs.Settling.{deal_any}
use Rattle.zio_tasks.proofs.tasks.Tasks.give_back.Goals as goal

pub another-requires-clause-rule : goal.another-requires-clause-rule
another-requires-clause-rule g c = deal_any _ _ c.requires.hands.0

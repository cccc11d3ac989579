use Rattle.zio_trace.proofs.TogetherDone.{done_as_in_turn}
use Rattle.zio_trace.proofs.together.work_is_done_as_in_turn.Goals as goal

pub returns : goal.returns
returns c = done_as_in_turn

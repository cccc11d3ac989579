use Rattle.zio_sound.proofs.Leaving.{round_left}
use Rattle.zio_sound.proofs.Oracled.{answered_settled}
use Rattle.zio_sound.proofs.answered_rounds_leave_rests.Goals as goal

pub returns : goal.returns
returns c = λ journal t f ds values h. round_left t f values (answered_settled journal t f ds values h)

use Rattle.zio_sound.proofs.Linked.{round_linked}
use Rattle.zio_sound.proofs.Oracled.{answered_settled}
use Rattle.zio_sound.proofs.what_is_left_is_linked.Goals as goal

pub returns : goal.returns
returns c = λ journal t f ds values under answered linked. round_linked t under f values linked (answered_settled journal t f ds values answered)

use Rattle.zio_sound.proofs.SettledRounds.{settled_round}
use Rattle.zio_sound.proofs.settled_rounds_are_rounds.Goals as goal

pub returns : goal.returns
returns c = settled_round

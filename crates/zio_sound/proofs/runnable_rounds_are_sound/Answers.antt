use Rattle.zio_sound.proofs.SoundRounds.{runnable_sound}
use Rattle.zio_sound.proofs.runnable_rounds_are_sound.Goals as goal

pub returns : goal.returns
returns c = runnable_sound

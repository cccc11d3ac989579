use Rattle.zio_trace.proofs.SoundRoundLemmas.{round_sound}
use Rattle.zio_trace.proofs.soundness.sound_rounds_are_sound_work.Goals as goal

pub returns : goal.returns
returns c = round_sound

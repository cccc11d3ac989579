use Rattle.zio_trace.proofs.SoundExample.{example_sound}
use Rattle.zio_trace.proofs.examples.a_block_is_read_twice.Goals as goal

pub returns : goal.returns
returns c = example_sound

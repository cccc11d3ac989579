use Rattle.zio_trace.proofs.ValidBlocks.{valid_sound}
use Rattle.zio_trace.proofs.soundness.blocks_of_valid_pointers_are_sound.Goals as goal

pub returns : goal.returns
returns c = valid_sound

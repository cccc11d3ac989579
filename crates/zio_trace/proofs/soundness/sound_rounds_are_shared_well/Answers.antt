use Rattle.zio_trace.proofs.SharedKeeps.{round_shares}
use Rattle.zio_trace.proofs.soundness.sound_rounds_are_shared_well.Goals as goal

pub returns : goal.returns
returns c = round_shares

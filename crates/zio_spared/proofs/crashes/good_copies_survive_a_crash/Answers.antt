use Rattle.zio_spared.proofs.CrashCopies.{named_survive, others_survive}
use Rattle.zio_spared.proofs.crashes.good_copies_survive_a_crash.Goals as goal

pub returns : goal.returns
returns c = record { named = named_survive; others = others_survive }

use Rattle.zio_spared.proofs.CrashCopies.{named_unwritten, others_unwritten}
use Rattle.zio_spared.proofs.crashes.good_copies_are_never_written.Goals as goal

pub returns : goal.returns
returns c = record { named = named_unwritten; others = others_unwritten }

use Rattle.zio_disks.proofs.DiskLemmas.{handles_then}
use Rattle.zio_disks.proofs.write.write_piece.Goals as goal

pub returns-in-Some-clause-handled : goal.returns-in-Some-clause-handled
returns-in-Some-clause-handled g c = handles_then c.in_ok-first.ensures.handled c.write_pass-in-Some.ensures.handled

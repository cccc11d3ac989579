use Rattle.zio_disks.proofs.DiskLemmas.{same_itself}
use Rattle.zio_command.proofs.scrub.scrub_behind.Goals as goal

pub returns-then-eq-clause-same : goal.returns-then-eq-clause-same
returns-then-eq-clause-same g c = same_itself g.D.Disk.bytes g.D.Disk.faults g.D.Disk.faults_at_fetch g.D.Disk.home g.D.Disk.image g.D.Disk.sound c.args.disks.items

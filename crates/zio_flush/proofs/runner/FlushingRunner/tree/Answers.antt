use Rattle.zio_disks.proofs.DiskLemmas.{same_itself}
use Rattle.zio_flush.proofs.runner.FlushingRunner.tree.Goals as goal

pub returns-clause-same : goal.returns-clause-same
returns-clause-same g c =
    same_itself g.D.Disk.bytes g.D.Disk.faults g.D.Disk.faults_at_fetch g.D.Disk.home g.D.Disk.image g.D.Disk.sound c.args.self.now.disks

use Rattle.std.proofs.Common.{[]}
use Rattle.zio_disks.proofs.DiskLemmas.{handles_none}
use Rattle.zio_disks.proofs.leaf.read_faulty.Goals as goal

pub returns-in-Eio-clause-handled : goal.returns-in-Eio-clause-handled
returns-in-Eio-clause-handled g c =
    handles_none g.D.Disk.bytes g.D.Disk.faults g.D.Disk.faults_at_fetch g.D.Disk.home g.D.Disk.image g.D.Disk.sound g.D.Disk.went [] _ c.args.disks.now (λ e. cc)

pub returns-in-Gone-clause-handled : goal.returns-in-Gone-clause-handled
returns-in-Gone-clause-handled g c =
    handles_none g.D.Disk.bytes g.D.Disk.faults g.D.Disk.faults_at_fetch g.D.Disk.home g.D.Disk.image g.D.Disk.sound g.D.Disk.went [] _ c.args.disks.now (λ e. cc)

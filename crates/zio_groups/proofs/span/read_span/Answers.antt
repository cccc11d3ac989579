use Rattle.std.proofs.Common.{[]}
use Rattle.zio_disks.proofs.DiskLemmas.{handles_none, not_device}
use Rattle.zio_groups.proofs.CoverLemmas.{memory_on}
use Rattle.zio_groups.proofs.span.read_span.Goals as goal

pub returns-in_err-room-clause-handled : goal.returns-in_err-room-clause-handled
returns-in_err-room-clause-handled g c =
    handles_none g.D.Disk.bytes g.D.Disk.faults g.D.Disk.faults_at_fetch g.D.Disk.home g.D.Disk.image g.D.Disk.sound g.D.Disk.went [] c.from_residual.result c.args.disks.now
    (not_device c.from_residual.result (memory_on c.from_residual.result _ c.from_residual.ensures.1 c.in_err-room.ensures.err))

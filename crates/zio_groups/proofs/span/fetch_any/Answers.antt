use Rattle.std.proofs.Common.{[]}
use Rattle.zio_disks.proofs.DiskLemmas.{handles_none}
use Rattle.zio_groups.proofs.span.fetch_any.Goals as goal

pub returns-then-is_empty-clause-handled : goal.returns-then-is_empty-clause-handled
returns-then-is_empty-clause-handled g c =
    handles_none g.D.Disk.bytes g.D.Disk.faults g.D.Disk.faults_at_fetch g.D.Disk.home g.D.Disk.image g.D.Disk.sound g.D.Disk.went [] _ c.args.disks.now (λ e. cc)

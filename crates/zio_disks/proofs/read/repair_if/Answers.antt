use Rattle.std.proofs.Common.{Contains, subst, sym}
use Rattle.std.specs.List.{AllByRecursion}
use Rattle.zio_disks.specs.Disks.{repairs_in, touched}
use Rattle.zio_disks.proofs.DiskLemmas.{handles_none, handles_wider}
use Rattle.zio_disks.proofs.read.repair_if.Goals as goal

pub returns-then-not-wanted-clause-handled : goal.returns-then-not-wanted-clause-handled
returns-then-not-wanted-clause-handled g c =
    handles_none g.D.Disk.bytes g.D.Disk.faults g.D.Disk.faults_at_fetch g.D.Disk.home g.D.Disk.image g.D.Disk.sound g.D.Disk.went _ _ c.args.disks.now (λ e. cc)

pub returns-clause-handled : goal.returns-clause-handled
returns-clause-handled g c =
    handles_wider (touched c.args.wanted c.args.setting.now c.args.places.now)
    (subst (λ fs. AllByRecursion (Contains (touched c.args.wanted c.args.setting.now c.args.places.now)) (repairs_in c.args.setting.now c.args.places.now c.args.good.before fs))
    (sym c.as_slice.ensures)
    (subst (λ t. AllByRecursion (Contains (touched t c.args.setting.now c.args.places.now)) (repairs_in c.args.setting.now c.args.places.now c.args.good.before c.args.good.failed))
    (sym c.if-not-wanted.false) c.requires.among))
    c.repair.ensures.handled

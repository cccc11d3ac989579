use Rattle.std.proofs.lemmas.Result.{IfOk-weaker}
use Rattle.zio_disks.proofs.BodyLemmas.{bodies_step}
use Rattle.zio_disks.proofs.DiskLemmas.{handles_none, handles_then}
use Rattle.zio_disks.proofs.bodies.+read_bodies.Goals as goal

pub returns-in_default-clause-handled : goal.returns-in_default-clause-handled
returns-in_default-clause-handled g t c = handles_none g.D.Disk.bytes g.D.Disk.faults g.D.Disk.faults_at_fetch g.D.Disk.home g.D.Disk.image g.D.Disk.sound g.D.Disk.went _ _ c.args.disks.now (λ e. cc)

pub returns-clause-handled : goal.returns-clause-handled
returns-clause-handled g t c = handles_then c.in_ok-add_body.ensures.handled c.read_bodies.ensures.handled

pub returns-clause-told : goal.returns-clause-told
returns-clause-told g t c =
    IfOk-weaker c.read_bodies.result _ _
    (λ x h images tell.
    bodies_step g.D.Disk.image c.args.setting.now c.args.bodies.now _ images c.args.errors.now c.add_body.new.errors c.read_bodies.new.errors c.args.bytes.now c.add_body.new.bytes c.read_bodies.new.bytes
    c.add_body.new.disks c.read_bodies.new.disks c.in-len1-up.len_at_least (c.in_ok-add_body.ensures.told images tell) h)
    c.read_bodies.ensures.told

use Rattle.zio_disks.specs.Disks.{touched}
use Rattle.zio_disks.proofs.DiskLemmas.{handles_err, handles_ok, handles_then, handles_wider}
use Rattle.zio_disks.proofs.read.last_pass.Goals as goal

pub returns-in_err-repair_if-in-Ok-clause-handled : goal.returns-in_err-repair_if-in-Ok-clause-handled
returns-in_err-repair_if-in-Ok-clause-handled g c =
    handles_then (handles_wider (touched c.args.repair c.args.setting.now c.args.places.now) tt c.in_ok-pass.ensures.handled)
    (handles_err _ c.from_residual-in_err-repair_if-in-Ok.ensures.1 c.in_err-repair_if-in-Ok.ensures.handled)

pub returns-in_ok-repair_if-in-Ok-clause-handled : goal.returns-in_ok-repair_if-in-Ok-clause-handled
returns-in_ok-repair_if-in-Ok-clause-handled g c =
    handles_then (handles_wider (touched c.args.repair c.args.setting.now c.args.places.now) tt c.in_ok-pass.ensures.handled)
    (handles_ok _ c.in_ok-repair_if-in-Ok.ensures.handled)

use Rattle.std.proofs.Common.{◌∷◌, []}
use Rattle.std.proofs.lemmas.Result.{err_from_is_err_and}
use Rattle.zio_disks.proofs.DiskLemmas.{handles_none}
use Rattle.zio_disks.proofs.leaf.write_faulty.Goals as goal

pub returns-in_err-turned-in-Flip-clause-handled :
    goal.returns-in_err-turned-in-Flip-clause-handled
returns-in_err-turned-in-Flip-clause-handled g c =
    let p = err_from_is_err_and c.from_residual.result c.from_residual.ensures.1 in
    let is = p.1 in
    let same = p.2 in
    let memory = c.in_err-turned-in-Flip.ensures.err in
    handles_none g.D.Disk.bytes g.D.Disk.faults g.D.Disk.faults_at_fetch g.D.Disk.home g.D.Disk.image g.D.Disk.sound g.D.Disk.went (c.args.spot.now ∷ []) _ c.args.disks.now (λ e. cc)

pub returns-in-Eio-clause-handled : goal.returns-in-Eio-clause-handled
returns-in-Eio-clause-handled g c =
    handles_none g.D.Disk.bytes g.D.Disk.faults g.D.Disk.faults_at_fetch g.D.Disk.home g.D.Disk.image g.D.Disk.sound g.D.Disk.went (c.args.spot.now ∷ []) _ c.args.disks.now (λ e. cc)

pub returns-in-Gone-clause-handled : goal.returns-in-Gone-clause-handled
returns-in-Gone-clause-handled g c =
    handles_none g.D.Disk.bytes g.D.Disk.faults g.D.Disk.faults_at_fetch g.D.Disk.home g.D.Disk.image g.D.Disk.sound g.D.Disk.went (c.args.spot.now ∷ []) _ c.args.disks.now (λ e. cc)

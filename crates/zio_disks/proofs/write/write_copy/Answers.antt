use Rattle.std.proofs.Common.{◌≡◌, Option, ap, ◌∙◌}
use Rattle.std.proofs.lemmas.Result.{IfOk-weaker, err_from_is_err_and}
use Rattle.zio_types.specs.declared.error.Errno.{Errno}
use Rattle.zio_cksum.specs.Blocks.{spot_in}
use Rattle.zio_cksum.specs.Images.{Images, Spot, Written, padded_to, write_leaf}
use Rattle.zio_disks.proofs.DiskLemmas.{handles_none}
use Rattle.zio_disks.proofs.WriteLemmas.{padded_write}
use Rattle.zio_disks.proofs.write.write_copy.Goals as goal

pub returns-in_err-whole-clause-handled : goal.returns-in_err-whole-clause-handled
returns-in_err-whole-clause-handled g c =
    let p = err_from_is_err_and c.from_residual.result c.from_residual.ensures.1 in
    let is = p.1 in
    let same = p.2 in
    let memory = c.in_err-whole.ensures.err in
    handles_none g.D.Disk.bytes g.D.Disk.faults g.D.Disk.faults_at_fetch g.D.Disk.home g.D.Disk.image g.D.Disk.sound g.D.Disk.went _ _ c.args.disks.now (λ e. cc)

pub returns-clause-answer : goal.returns-clause-answer
returns-clause-answer g c =
    let spot : Spot = spot_in c.args.place.now c.args.leaf in
    let padded : c.as_slice.result.now ≡ padded_to spot.span c.args.bytes.now =
    c.as_slice.ensures ∙ c.in_ok-whole.ensures.ok ∙ ap (λ span. padded_to span c.args.bytes.now) c.span_of-span.ensures in
    IfOk-weaker c.write_leaf-2.result
    (λ error. (images : Images) → error ≡ (write_leaf c.args.setting.now c.args.retry c.as_slice.result.now images c.spot_in-spot.result).error)
    (λ error. (images : Images) → error ≡ (write_leaf c.args.setting.now c.args.retry c.args.bytes.now images spot).error)
    (λ error h images.
    h images
    ∙ ap (λ (at : Spot). (write_leaf c.args.setting.now c.args.retry c.as_slice.result.now images at).error) c.spot_in-spot.ensures.spot
    ∙ ap (λ (w : Written). w.error) (padded_write c.args.setting.now c.args.retry spot c.args.bytes.now c.as_slice.result.now images padded))
    c.write_leaf-2.ensures.answer

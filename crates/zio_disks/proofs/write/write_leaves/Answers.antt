use Rattle.std.proofs.Common.{◌≡◌, ◌*◌, length, map, subst, ap, ◌∙◌, arith}
use Rattle.std.proofs.lemmas.Result.{IfOk-weaker, err_from_is_err_and}
use Rattle.zio_types.specs.Places.{sector_size}
use Rattle.zio_cksum.specs.Blocks.{Writes, in_turn, place_written, spot_in}
use Rattle.zio_cksum.specs.Images.{Images, padded_to, write_leaf}
use Rattle.zio_cksum.proofs.ByteLemmas.{length-padded_to}
use Rattle.zio_disks.specs.Disks.{Tell}
use Rattle.zio_disks.proofs.DiskLemmas.{handles_none}
use Rattle.zio_disks.proofs.WriteLemmas.{room_of, turn_padded, whole_lies}
use Rattle.zio_disks.proofs.write.write_leaves.Goals as goal

pub returns-then-is_empty-clause-handled : goal.returns-then-is_empty-clause-handled
returns-then-is_empty-clause-handled g c =
    handles_none g.D.Disk.bytes g.D.Disk.faults g.D.Disk.faults_at_fetch g.D.Disk.home g.D.Disk.image g.D.Disk.sound g.D.Disk.went _ _ c.args.disks.now (λ e. cc)

pub padded_to-requires : goal.padded_to-requires
padded_to-requires g c =
    let long = room_of (map g.D.Disk.bytes c.args.disks.now) (length c.args.bytes.now) c.args.place.now c.args.leaves.now c.if-is_empty.ensures c.requires.lies in
    omega (arith, c.span_of-span.ensures)

pub returns-in_err-whole-clause-handled : goal.returns-in_err-whole-clause-handled
returns-in_err-whole-clause-handled g c =
    let p = err_from_is_err_and c.from_residual.result c.from_residual.ensures.1 in
    let is = p.1 in
    let same = p.2 in
    let memory = c.in_err-whole.ensures.err in
    handles_none g.D.Disk.bytes g.D.Disk.faults g.D.Disk.faults_at_fetch g.D.Disk.home g.D.Disk.image g.D.Disk.sound g.D.Disk.went _ _ c.args.disks.now (λ e. cc)

pub write_each-requires-2-clause-lies : goal.write_each-requires-2-clause-lies
write_each-requires-2-clause-lies g c =
    let padded : c.as_slice.result.now ≡ padded_to c.span_of-span.result c.args.bytes.now = c.as_slice.ensures ∙ c.in_ok-whole.ensures.ok in
    let whole : length c.as_slice.result.now ≡ c.args.place.now.sectors * sector_size = ap length padded ∙ length-padded_to c.span_of-span.result c.args.bytes.now ∙ c.span_of-span.ensures in
    whole_lies (map g.D.Disk.bytes c.args.disks.now) (length c.args.bytes.now) (length c.as_slice.result.now) c.args.place.now c.args.leaves.now whole c.requires.lies

pub returns-clause-told : goal.returns-clause-told
returns-clause-told g c =
    let padded : c.as_slice.result.now ≡ padded_to (c.args.place.now.sectors * sector_size) c.args.bytes.now =
    c.as_slice.ensures ∙ c.in_ok-whole.ensures.ok ∙ ap (λ span. padded_to span c.args.bytes.now) c.span_of-span.ensures in
    IfOk-weaker c.write_each-2.result
    (λ error. (images : Images) → Tell g.D.Disk.image c.args.disks.now images →
    (error ≡ (place_written (in_turn (write_leaf c.args.setting.now c.args.retry c.as_slice.result.now) (map (spot_in c.args.place.now) c.args.leaves.now) images)).error)
    × Tell g.D.Disk.image c.write_each-2.new.disks (in_turn (write_leaf c.args.setting.now c.args.retry c.as_slice.result.now) (map (spot_in c.args.place.now) c.args.leaves.now) images).images)
    (λ error. (images : Images) → Tell g.D.Disk.image c.args.disks.now images →
    (error ≡ (place_written (in_turn (write_leaf c.args.setting.now c.args.retry c.args.bytes.now) (map (spot_in c.args.place.now) c.args.leaves.now) images)).error)
    × Tell g.D.Disk.image c.write_each-2.new.disks (in_turn (write_leaf c.args.setting.now c.args.retry c.args.bytes.now) (map (spot_in c.args.place.now) c.args.leaves.now) images).images)
    (λ error h images tell.
    subst (λ (w : Writes). (error ≡ (place_written w).error) × Tell g.D.Disk.image c.write_each-2.new.disks w.images)
    (turn_padded c.args.setting.now c.args.retry c.args.place.now c.args.leaves.now c.args.bytes.now c.as_slice.result.now images padded)
    (h images tell))
    c.write_each-2.ensures.told

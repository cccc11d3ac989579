use Rattle.std.proofs.Common.{◌≡◌, List, map}
use Rattle.zio_cksum.specs.Blocks.{spot_in}
use Rattle.zio_cksum.specs.Images.{Images, Spot, Written, write_leaf}
use Rattle.zio_disks.specs.Disks.{Tell}
use Rattle.zio_disks.proofs.WriteLemmas.{first_leaf_among, leaves_told, other_leaves_among}
use Rattle.zio_disks.proofs.DiskLemmas.{handles_none, handles_ok, handles_err, handles_then, handles_wider}
use Rattle.zio_disks.proofs.write.+write_each.Goals as goal

pub returns-in_err-error-in-len1-up-clause-handled :
    goal.returns-in_err-error-in-len1-up-clause-handled
returns-in_err-error-in-len1-up-clause-handled g t c =
    handles_err _ c.from_residual.ensures.1
    (handles_wider (map (spot_in c.args.place.now) c.args.leaves.now)
    (first_leaf_among c.args.place.now c.args.leaves.now _ c.in-len1-up.len_at_least c.spot_in-spot.ensures.spot) c.in_err-error-in-len1-up.ensures.handled)

pub returns-in_err-others-in-len1-up-clause-handled :
    goal.returns-in_err-others-in-len1-up-clause-handled
returns-in_err-others-in-len1-up-clause-handled g t c =
    let spots : List Spot = map (spot_in c.args.place.now) c.args.leaves.now in
    let x = handles_wider spots (first_leaf_among c.args.place.now c.args.leaves.now _ c.in-len1-up.len_at_least c.spot_in-spot.ensures.spot) c.in_ok-error-in-len1-up.ensures.handled in
    let y = handles_wider spots (other_leaves_among c.args.place.now c.args.leaves.now c.in-len1-up.len_at_least) c.in_err-others-in-len1-up.ensures.handled in
    handles_then x (handles_err _ c.from_residual-in_err-others-in-len1-up.ensures.1 y)

pub returns-in-empty-clause-handled : goal.returns-in-empty-clause-handled
returns-in-empty-clause-handled g t c =
    handles_none g.D.Disk.bytes g.D.Disk.faults g.D.Disk.faults_at_fetch g.D.Disk.home g.D.Disk.image g.D.Disk.sound g.D.Disk.went _ _ c.args.disks.now (λ e. cc)

pub returns-in_ok-others-in-len1-up-clause-told : goal.returns-in_ok-others-in-len1-up-clause-told
returns-in_ok-others-in-len1-up-clause-told g t c images tell =
    let write : Images → Spot → Written = write_leaf c.args.setting.now c.args.retry c.args.whole.now in
    let spot : Spot = c.spot_in-spot.result in
    let first : (c.in_ok-error-in-len1-up.error ≡ (write images spot).error) × Tell g.D.Disk.image c.write_leaf.new.disks (write images spot).images =
    c.in_ok-error-in-len1-up.ensures.told images tell in
    leaves_told g.D.Disk.image write c.args.place.now c.args.leaves.now images spot c.in_ok-error-in-len1-up.error c.in_ok-others-in-len1-up.others c.both_failed.result c.write_each.new.disks
    c.in-len1-up.len_at_least c.spot_in-spot.ensures.spot first.0 (c.in_ok-others-in-len1-up.ensures.told (write images spot).images first.1) c.both_failed.ensures

pub returns-in_ok-others-in-len1-up-clause-handled :
    goal.returns-in_ok-others-in-len1-up-clause-handled
returns-in_ok-others-in-len1-up-clause-handled g t c =
    let spots : List Spot = map (spot_in c.args.place.now) c.args.leaves.now in
    let x = handles_wider spots (first_leaf_among c.args.place.now c.args.leaves.now _ c.in-len1-up.len_at_least c.spot_in-spot.ensures.spot) c.in_ok-error-in-len1-up.ensures.handled in
    let y = handles_wider spots (other_leaves_among c.args.place.now c.args.leaves.now c.in-len1-up.len_at_least) c.in_ok-others-in-len1-up.ensures.handled in
    handles_then x (handles_ok _ y)

use Rattle.std.proofs.Common.{◌≡◌, ℕ, ◌-◌, List, Bool, Result, Err, get_or, length, take, drop, ap, subst, ◌∙◌}
use Rattle.zio_types.specs.declared.error.Errno.{Errno}
use Rattle.zio_cksum.specs.Blocks.{judged, spot_in}
use Rattle.zio_cksum.specs.Images.{Spot, read_leaf}
use Rattle.zio_disks.specs.Copies.{good_by}
use Rattle.zio_disks.specs.Disks.{Tell, found_if, found_with}
use Rattle.zio_disks.proofs.DiskLemmas.{handles_none, handles_ok, handles_err, handles_then}
use Rattle.zio_disks.proofs.ReadLemmas.{FirstTold, first_told}
use Rattle.zio_disks.proofs.read.+first_good.Goals as goal

pub returns-in_default-clause-handled : goal.returns-in_default-clause-handled
returns-in_default-clause-handled g t c =
    handles_none g.D.Disk.bytes g.D.Disk.faults g.D.Disk.faults_at_fetch g.D.Disk.home g.D.Disk.image g.D.Disk.sound g.D.Disk.went _ _ c.args.disks.now (λ e. cc)

pub returns-in_err-others-clause-handled : goal.returns-in_err-others-clause-handled
returns-in_err-others-clause-handled g t c =
    handles_then c.in_ok-read.ensures.handled
    (handles_err _ c.from_residual-in_err-others.ensures.1 c.in_err-others.ensures.handled)

pub returns-clause-told : goal.returns-clause-told
returns-clause-told g t c images tell =
    let len : ℕ = length c.args.buffer.now in
    let rest_of : List ℕ = take (length c.args.leaves.now - 1) (drop 1 c.args.leaves.now) in
    let good : List ℕ → Bool = good_by c.args.good.now in
    let here : ℕ → Spot → Result (List ℕ) Errno = read_leaf c.args.setting.now c.args.retry images in
    let read : ℕ → ℕ → Result (List ℕ) Errno = λ n leaf. judged good (here n (spot_in c.args.place.now leaf)) in
    let first : (found_with c.in_ok-read.read c.read_leaf.new.buffer ≡ here len c.spot_in-spot.result) × Tell g.D.Disk.image c.read_leaf.new.disks images =
    c.in_ok-read.ensures.told images tell in
    let failed : Err c.in-Some.error ≡ read len (get_or c.args.leaves.now 0 0) =
    c.in-Some.ensures.value ∙ ap (judged good) first.0 ∙ ap (λ spot. judged good (here len spot)) c.spot_in-spot.ensures.spot in
    let others = c.in_ok-others.ensures.told images first.1 in
    let rest : FirstTold (read len) rest_of (found_if c.in_ok-others.others.found c.first_good.new.buffer) c.in_ok-others.others.failed c.in_ok-others.others.worst =
    subst (λ n. FirstTold (read n) rest_of (found_if c.in_ok-others.others.found c.first_good.new.buffer) c.in_ok-others.others.failed c.in_ok-others.others.worst)
    c.read_leaf.auto.buffer (record { found = others.0; failed = others.1; worst = others.2 }) in
    let all = first_told (read len) c.args.leaves.now c.in-Some.error _ _ _ c.in-len1-up.len_at_least failed rest in
    (all.found, all.failed, c.worst.ensures ∙ all.worst, others.3)

pub returns-clause-handled : goal.returns-clause-handled
returns-clause-handled g t c =
    handles_then c.in_ok-read.ensures.handled (handles_ok _ c.in_ok-others.ensures.handled)

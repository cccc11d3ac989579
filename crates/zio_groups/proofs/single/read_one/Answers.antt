use Rattle.std.proofs.Common.{◌≡◌, ℕ, List, [], length, Result, Ok, Err, Option, refl, ap, sym, ◌∙◌}
use Rattle.std.proofs.lemmas.Result.{err_from_is_err_and}
use Rattle.zio_disks.proofs.DiskLemmas.{handles_none}
use Rattle.zio_types.specs.declared.error.Errno.{Errno}
use Rattle.zio_cksum.specs.Images.{Spot, read_leaf}
use Rattle.zio_disks.specs.Disks.{read_error}
use Rattle.zio_groups.specs.Issued.{head_of, read_answered, spot_of}
use Rattle.zio_groups.proofs.ByteLemmas.{read_empty}
use Rattle.zio_groups.proofs.single.read_one.Goals as goal

pub returns-then-op-eq0-clause-told : goal.returns-then-op-eq0-clause-told
returns-then-op-eq0-clause-told g c images told =
    (cc (ap (read_answered c.args.op.now.ticket) (read_empty c.args.setting.now c.args.op.now.flags.retry images (spot_of c.args.leaf c.args.op.now) c.if-op-eq0.true)), told)

pub returns-then-op-eq0-clause-head : goal.returns-then-op-eq0-clause-head
returns-then-op-eq0-clause-head g c images =
    ap head_of (sym (ap (read_answered c.args.op.now.ticket) (read_empty c.args.setting.now c.args.op.now.flags.retry images (spot_of c.args.leaf c.args.op.now) c.if-op-eq0.true)))

pub returns-then-op-eq0-clause-handled : goal.returns-then-op-eq0-clause-handled
returns-then-op-eq0-clause-handled g c =
    handles_none g.D.Disk.bytes g.D.Disk.faults g.D.Disk.faults_at_fetch g.D.Disk.home g.D.Disk.image g.D.Disk.sound g.D.Disk.went [] _ c.args.disks.now (λ e. cc)

pub returns-in_err-buffer-clause-handled : goal.returns-in_err-buffer-clause-handled
returns-in_err-buffer-clause-handled g c =
    let p = err_from_is_err_and c.from_residual.result c.from_residual.ensures.1 in
    let is = p.1 in
    let same = p.2 in
    let memory = c.in_err-buffer.ensures.err in
    handles_none g.D.Disk.bytes g.D.Disk.faults g.D.Disk.faults_at_fetch g.D.Disk.home g.D.Disk.image g.D.Disk.sound g.D.Disk.went [] _ c.args.disks.now (λ e. cc)

read_head : (ticket : ℕ) (found : Result (List ℕ) Errno) → head_of (read_answered ticket found) ≡ (ticket, read_error found)
read_head ticket (Ok bytes) = refl
read_head ticket (Err e) = refl

pub returns-clause-head : goal.returns-clause-head
returns-clause-head g c images =
    let found = λ (len : ℕ) (spot : Spot). read_error (read_leaf c.args.setting.now c.args.op.now.flags.retry images len spot) in
    let long : length c.as_mut_slice.result.now ≡ c.args.op.now.len = ap length c.as_mut_slice.ensures.value ∙ c.in_ok-buffer.ensures.ok in
    ap (λ (error : Option Errno). (c.args.op.now.ticket, error)) (c.in_ok-error.ensures.answer images ∙ ap (λ (len : ℕ). found len c.spot_of-spot.result) long ∙ ap (found c.args.op.now.len) c.spot_of-spot.ensures)
    ∙ sym (read_head c.args.op.now.ticket (read_leaf c.args.setting.now c.args.op.now.flags.retry images c.args.op.now.len (spot_of c.args.leaf c.args.op.now)))

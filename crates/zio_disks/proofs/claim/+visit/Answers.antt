use Rattle.std.proofs.Common.{rules, ◌≡◌, ◌++◌, ◌+◌, ◌*◌, ◌<◌, ◌≤◌, ℕ, List, length, map, Ok, IfOk, IsTrue, false, subst, sym, ◌∙◌, arith}
use Rattle.std.specs.List.{AllByRecursion}
use Rattle.std.proofs.lemmas.List.{append-nil}
use Rattle.std.proofs.lemmas.Result.{IfOk-weaker, on_ok_weaker}
use Rattle.zio_types.specs.Places.{sector_size}
use Rattle.zio_blkptr.specs.declared.pointer.Bp.{Bp}
use Rattle.zio_blkptr.specs.Pointers.{places_of, valid}
use Rattle.zio_cksum.specs.Blocks.{Read, good_claimed, read_block}
use Rattle.zio_cksum.specs.Images.{Images}
use Rattle.zio_gang.specs.Trees.{Walk, claim_visit, sizes_of, walk}
use Rattle.zio_disks.specs.Disks.{Tell}
use Rattle.zio_disks.specs.Trees.{BearsTops}
use Rattle.zio_disks.proofs.ClaimLemmas.{adds_as, adds_error, adds_first, adds_header, adds_nothing, claim_bad, claim_body, claim_deep, claim_gang, header_walked, members_valid, read_body, read_gang, read_none}
use Rattle.zio_disks.proofs.DiskLemmas.{handles_none, handles_then, not_device}
use Rattle.zio_disks.proofs.TreeLemmas.{on_if}
use Rattle.zio_disks.proofs.claim.+visit.Goals as goal

-- ---- a pointer

pub visit_pointer-returns-then-not-is_fitting-clause-told : goal.visit_pointer-returns-then-not-is_fitting-clause-told
visit_pointer-returns-then-not-is_fitting-clause-told g t c =
    on_if c.note_error.result c.note_error.ensures.ok
    (λ added x images tell.
    subst (λ (w : Walk). (c.note_error.new.errors ≡ c.args.errors.now ++ w.errors) × (c.args.heads.now ≡ c.args.heads.now ++ w.heads) × Tell g.D.Disk.image c.args.disks.now w.images)
    (sym (claim_bad c.args.levels c.args.setting.now c.args.path.now c.args.bp.now images (sym c.is_fitting.ensures ∙ c.if-not-is_fitting.true)))
    (added, sym (append-nil c.args.heads.now), tell))

pub visit_pointer-returns-then-not-is_fitting-clause-handled : goal.visit_pointer-returns-then-not-is_fitting-clause-handled
visit_pointer-returns-then-not-is_fitting-clause-handled g t c =
    handles_none g.D.Disk.bytes g.D.Disk.faults g.D.Disk.faults_at_fetch g.D.Disk.home g.D.Disk.image g.D.Disk.sound g.D.Disk.went _ c.note_error.result c.args.disks.now (not_device c.note_error.result c.note_error.ensures.err)

pub visit_pointer-returns-then-not-bp-clause-told : goal.visit_pointer-returns-then-not-bp-clause-told
visit_pointer-returns-then-not-bp-clause-told g t c images tell =
    subst (λ (w : Walk). (c.args.errors.now ≡ c.args.errors.now ++ w.errors) × (c.args.heads.now ≡ c.args.heads.now ++ w.heads) × Tell g.D.Disk.image c.args.disks.now w.images)
    (sym (claim_body c.args.levels c.args.setting.now c.args.path.now c.args.bp.now images (sym c.is_fitting.ensures ∙ c.if-not-is_fitting.false) c.if-not-bp.true))
    (sym (append-nil c.args.errors.now), sym (append-nil c.args.heads.now), tell)

pub visit_pointer-returns-then-not-bp-clause-added : goal.visit_pointer-returns-then-not-bp-clause-added
visit_pointer-returns-then-not-bp-clause-added g t c =
    adds_nothing _ c.args.errors.now c.args.heads.now
    (read_body (sizes_of c.args.setting.now.tops) c.args.levels c.args.path.now c.args.bp.now c.requires.valid (sym c.is_fitting.ensures ∙ c.if-not-is_fitting.false) c.if-not-bp.true)

pub visit_pointer-returns-then-not-bp-clause-handled : goal.visit_pointer-returns-then-not-bp-clause-handled
visit_pointer-returns-then-not-bp-clause-handled g t c = handles_none g.D.Disk.bytes g.D.Disk.faults g.D.Disk.faults_at_fetch g.D.Disk.home g.D.Disk.image g.D.Disk.sound g.D.Disk.went _ _ c.args.disks.now (λ e. cc)

pub visit_pointer-returns-then-levels-eq0-clause-told : goal.visit_pointer-returns-then-levels-eq0-clause-told
visit_pointer-returns-then-levels-eq0-clause-told g t c =
    on_if c.note_error-then-levels-eq0.result c.note_error-then-levels-eq0.ensures.ok
    (λ added x images tell.
    subst (λ (w : Walk). (c.note_error-then-levels-eq0.new.errors ≡ c.args.errors.now ++ w.errors) × (c.args.heads.now ≡ c.args.heads.now ++ w.heads) × Tell g.D.Disk.image c.args.disks.now w.images)
    (sym (claim_deep c.args.levels c.args.setting.now c.args.path.now c.args.bp.now images (sym c.is_fitting.ensures ∙ c.if-not-is_fitting.false) c.if-not-bp.false c.if-levels-eq0.true))
    (added, sym (append-nil c.args.heads.now), tell))

pub visit_pointer-returns-then-levels-eq0-clause-handled : goal.visit_pointer-returns-then-levels-eq0-clause-handled
visit_pointer-returns-then-levels-eq0-clause-handled g t c =
    handles_none g.D.Disk.bytes g.D.Disk.faults g.D.Disk.faults_at_fetch g.D.Disk.home g.D.Disk.image g.D.Disk.sound g.D.Disk.went _ c.note_error-then-levels-eq0.result c.args.disks.now (not_device c.note_error-then-levels-eq0.result c.note_error-then-levels-eq0.ensures.err)

pub visit_pointer-returns-clause-told : goal.visit_pointer-returns-clause-told
visit_pointer-returns-clause-told g t c =
    let no = c.if-levels-eq0.false in
    let some : 0 < c.args.levels = omega arith in
    IfOk-weaker c.visit_gang.result _ _
    (λ x h (images : Images) (tell : Tell g.D.Disk.image c.args.disks.now images).
    subst (λ (w : Walk). (c.visit_gang.new.errors ≡ c.args.errors.now ++ w.errors) × (c.visit_gang.new.heads ≡ c.args.heads.now ++ w.heads) × Tell g.D.Disk.image c.visit_gang.new.disks w.images)
    (sym (claim_gang c.args.levels c.args.setting.now c.args.path.now c.args.bp.now images (sym c.is_fitting.ensures ∙ c.if-not-is_fitting.false) c.if-not-bp.false some))
    (h images tell))
    c.visit_gang.ensures.told

pub visit_pointer-returns-clause-added : goal.visit_pointer-returns-clause-added
visit_pointer-returns-clause-added g t c =
    let no = c.if-levels-eq0.false in
    let some : 0 < c.args.levels = omega arith in
    on_ok_weaker c.visit_gang.result
    (λ a. adds_as _ _ _ _ _ _
    (λ hs h. read_gang (sizes_of c.args.setting.now.tops) c.args.levels c.args.path.now c.args.bp.now hs c.requires.valid (sym c.is_fitting.ensures ∙ c.if-not-is_fitting.false) c.if-not-bp.false some h) a)
    c.visit_gang.ensures.added

-- ---- a header

from_first : (n : ℕ) → n ≤ 3 → 0 + n ≤ 3
from_first n h = omega arith

-- the members' measure is below the gang's
falls_by : (levels count t : ℕ) → 0 + count ≤ 3 → 6 * levels + 5 ≡ t → 6 * levels + 1 + count < t
falls_by levels count t few is = omega arith

pub visit_gang-visit_members-requires : goal.visit_gang-visit_members-requires
visit_gang-visit_members-requires g t c κs within =
    let few : 0 + length c.as_slice.result.now ≤ 3 = subst (λ (ms : List Bp). 0 + length ms ≤ 3) (sym c.as_slice.ensures) (from_first (length c.in_ok-members-in-Ok.members) c.in_ok-members-in-Ok.ensures.few) in
    let bears : BearsTops c.args.setting.now (map g.D.Disk.bytes c.read_header.new.disks) = subst (BearsTops c.args.setting.now) (sym c.in_ok-header.ensures.handled.same.sizes) c.requires.bears in
    let valid_all : AllByRecursion (λ (m : Bp). IsTrue (valid m)) c.as_slice.result.now =
    subst (AllByRecursion (λ (m : Bp). IsTrue (valid m))) (sym (c.as_slice.ensures ∙ c.in_ok-members-in-Ok.ensures.ok)) (members_valid c.in-Ok.header) in
    (falls_by c.args.levels (length c.as_slice.result.now) t few c.decreases, (search rules, (bears, (valid_all, (few, c.requires.depth)))))

pub visit_gang-returns-in_ok-members-in-Ok-clause-told : goal.visit_gang-returns-in_ok-members-in-Ok-clause-told
visit_gang-returns-in_ok-members-in-Ok-clause-told g t c =
    let below : List ℕ → Bp → Images → Walk = walk c.args.levels (claim_visit c.args.setting.now) in
    IfOk-weaker c.visit_members.result _ _
    (λ x h (images : Images) (tell : Tell g.D.Disk.image c.args.disks.now images).
    (let read : Read = read_block c.args.setting.now false (good_claimed c.args.bp.now) images sector_size (places_of c.args.bp.now) in
    let told : (c.in_ok-header.field-0 ≡ read.found) × Tell g.D.Disk.image c.read_header.new.disks read.images = c.in_ok-header.ensures.told images tell in
    let named : Ok c.in-Ok.header ≡ read.found = sym c.in-Ok.is ∙ told.0 in
    header_walked (Tell g.D.Disk.image c.visit_members.new.disks) below c.args.path.now c.in-Ok.header read.found read.images c.as_slice.result.now
    c.args.errors.now c.visit_members.new.errors c.args.heads.now c.note_head.new.heads c.visit_members.new.heads
    named (c.as_slice.ensures ∙ c.in_ok-members-in-Ok.ensures.ok) c.in_ok-note_head-in-Ok.ensures.ok (h read.images told.1)))
    c.visit_members.ensures.told

pub visit_gang-returns-in_ok-members-in-Ok-clause-added : goal.visit_gang-returns-in_ok-members-in-Ok-clause-added
visit_gang-returns-in_ok-members-in-Ok-clause-added g t c =
    on_ok_weaker c.visit_members.result
    (λ a. adds_header (sizes_of c.args.setting.now.tops) c.args.levels c.args.path.now c.args.bp.now c.in-Ok.header c.in_ok-members-in-Ok.members c.as_slice.result.now
    c.args.errors.now c.visit_members.new.errors c.args.heads.now c.note_head.new.heads c.visit_members.new.heads
    (subst (λ f. IfOk f (λ h. IsTrue (good_claimed c.args.bp.now h))) c.in-Ok.is c.in_ok-header.ensures.good) c.in_ok-members-in-Ok.ensures.ok c.as_slice.ensures c.in_ok-note_head-in-Ok.ensures.ok a)
    c.visit_members.ensures.added

pub visit_gang-returns-in_ok-members-in-Ok-clause-handled : goal.visit_gang-returns-in_ok-members-in-Ok-clause-handled
visit_gang-returns-in_ok-members-in-Ok-clause-handled g t c = handles_then c.in_ok-header.ensures.handled c.visit_members.ensures.handled

pub visit_gang-returns-in-Err-clause-added : goal.visit_gang-returns-in-Err-clause-added
visit_gang-returns-in-Err-clause-added g t c =
    on_ok_weaker c.note_error.result
    (λ added. adds_error _ c.args.errors.now c.note_error.new.errors c.args.heads.now c.in-Err.error added)
    c.note_error.ensures.ok

-- ---- members

pub visit_members-returns-in_default-clause-added : goal.visit_members-returns-in_default-clause-added
visit_members-returns-in_default-clause-added g t c =
    adds_nothing _ c.args.errors.now c.args.heads.now
    (read_none (sizes_of c.args.setting.now.tops) c.args.levels c.args.path.now c.args.n c.args.members.now (omega arith))

pub visit_members-returns-in_default-clause-handled : goal.visit_members-returns-in_default-clause-handled
visit_members-returns-in_default-clause-handled g t c = handles_none g.D.Disk.bytes g.D.Disk.faults g.D.Disk.faults_at_fetch g.D.Disk.home g.D.Disk.image g.D.Disk.sound g.D.Disk.went _ _ c.args.disks.now (λ e. cc)

pub visit_members-returns-clause-handled : goal.visit_members-returns-clause-handled
visit_members-returns-clause-handled g t c = handles_then c.in_ok-visit_pointer.ensures.handled c.visit_members.ensures.handled

pub visit_members-returns-clause-added : goal.visit_members-returns-clause-added
visit_members-returns-clause-added g t c =
    on_ok_weaker c.visit_members.result
    (λ b. adds_first (sizes_of c.args.setting.now.tops) c.args.levels c.args.path.now c.below-below.result c.args.n c.args.members.now _
    c.args.errors.now c.visit_pointer.new.errors c.visit_members.new.errors c.args.heads.now c.visit_pointer.new.heads c.visit_members.new.heads
    c.in-len1-up.len_at_least c.below-below.ensures c.in_ok-visit_pointer.ensures.added b)
    c.visit_members.ensures.added

use Rattle.std.proofs.Common.{rules, ◌≡◌, true, ◌+◌, ◌-◌, ◌*◌, ◌<◌, ◌≤◌, ◌++◌, Contains, length, map, ℕ, List, Ok, Err, IfOk, subst, sym, ap, ◌∙◌, arith}
use Rattle.std.specs.List.{AllByRecursion}
use Rattle.std.proofs.lemmas.List.{append-nil}
use Rattle.std.proofs.lemmas.Result.{IfOk-weaker, on_ok_weaker}
use Rattle.zio_types.specs.Places.{sector_size}
use Rattle.zio_blkptr.specs.declared.pointer.Bp.{Bp}
use Rattle.zio_blkptr.specs.Pointers.{places_of}
use Rattle.zio_cksum.specs.Blocks.{Read, good_kept, read_block}
use Rattle.zio_cksum.specs.Images.{Images}
use Rattle.zio_gang.specs.Trees.{Walk, kept_at, kept_visit, tree_pointers, walk, walk_members, walk_read}
use Rattle.zio_disks.specs.Disks.{Tell}
use Rattle.zio_disks.specs.Kept.{AreNamedAt}
use Rattle.zio_disks.specs.Trees.{BearsTops, members_in}
use Rattle.zio_disks.proofs.DiskLemmas.{handles_none, handles_then, not_device}
use Rattle.zio_disks.proofs.SizeLemmas.{kept_below, sized_by}
use Rattle.zio_disks.proofs.TreeLemmas.{BelowHead, on_if, walk_below, walk_body, walk_deep, walk_failed, walk_gang}
use Rattle.zio_disks.proofs.trees.+walk.Goals as goal

pub walk_members-returns-in_default-clause-handled : goal.walk_members-returns-in_default-clause-handled
walk_members-returns-in_default-clause-handled g t c = handles_none g.D.Disk.bytes g.D.Disk.faults g.D.Disk.faults_at_fetch g.D.Disk.home g.D.Disk.image g.D.Disk.sound g.D.Disk.went _ _ c.args.disks.now (λ e. cc)

pub walk_members-returns-clause-handled : goal.walk_members-returns-clause-handled
walk_members-returns-clause-handled g t c = handles_then c.in_ok-walk_pointer.ensures.handled c.walk_members.ensures.handled

pub walk_pointer-returns-then-not-bp-clause-handled : goal.walk_pointer-returns-then-not-bp-clause-handled
walk_pointer-returns-then-not-bp-clause-handled g t c =
    handles_none g.D.Disk.bytes g.D.Disk.faults g.D.Disk.faults_at_fetch g.D.Disk.home g.D.Disk.image g.D.Disk.sound g.D.Disk.went _ c.note_body.result c.args.disks.now (not_device c.note_body.result c.note_body.ensures.err)

pub walk_pointer-returns-then-levels-eq0-clause-handled : goal.walk_pointer-returns-then-levels-eq0-clause-handled
walk_pointer-returns-then-levels-eq0-clause-handled g t c =
    handles_none g.D.Disk.bytes g.D.Disk.faults g.D.Disk.faults_at_fetch g.D.Disk.home g.D.Disk.image g.D.Disk.sound g.D.Disk.went _ c.note_error.result c.args.disks.now (not_device c.note_error.result c.note_error.ensures.err)

pub walk_pointer-returns-in-Ok-clause-handled : goal.walk_pointer-returns-in-Ok-clause-handled
walk_pointer-returns-in-Ok-clause-handled g t c = handles_then c.in_ok-members.ensures.handled c.walk_members.ensures.handled

pub walk_pointer-returns-then-not-bp-clause-told : goal.walk_pointer-returns-then-not-bp-clause-told
walk_pointer-returns-then-not-bp-clause-told g t c =
    on_if c.note_body.result c.note_body.ensures.ok
    (λ added x images tell.
    subst (λ (w : Walk). (c.args.errors.now ≡ c.args.errors.now ++ w.errors) × (c.note_body.new.bodies ≡ c.args.bodies.now ++ w.bodies) × Tell g.D.Disk.image c.args.disks.now w.images)
    (sym (walk_body c.args.levels c.args.setting.now c.args.tree.now.heads c.args.path.now c.args.bp.now images c.if-not-bp.true))
    (sym (append-nil c.args.errors.now), added, tell))

pub walk_pointer-returns-then-levels-eq0-clause-told : goal.walk_pointer-returns-then-levels-eq0-clause-told
walk_pointer-returns-then-levels-eq0-clause-told g t c =
    on_if c.note_error.result c.note_error.ensures.ok
    (λ added x images tell.
    subst (λ (w : Walk). (c.note_error.new.errors ≡ c.args.errors.now ++ w.errors) × (c.args.bodies.now ≡ c.args.bodies.now ++ w.bodies) × Tell g.D.Disk.image c.args.disks.now w.images)
    (sym (walk_deep c.args.levels c.args.setting.now c.args.tree.now.heads c.args.path.now c.args.bp.now images c.if-not-bp.false c.if-levels-eq0.true))
    (added, sym (append-nil c.args.bodies.now), tell))

pub walk_pointer-returns-in-Ok-clause-told : goal.walk_pointer-returns-in-Ok-clause-told
walk_pointer-returns-in-Ok-clause-told g t c =
    let no = c.if-levels-eq0.false in
    let some : 0 < c.args.levels = omega arith in
    let below : List ℕ → Bp → Images → Walk = walk (c.args.levels - 1) (kept_visit c.args.setting.now c.args.tree.now.heads) in
    IfOk-weaker c.walk_members.result _ _
    (λ x (h : (images : Images) → Tell g.D.Disk.image c.read_members.new.disks images →
    (c.walk_members.new.errors ≡ c.args.errors.now ++ (walk_members below c.args.path.now 0 c.as_slice.result.now images).errors)
    × (c.walk_members.new.bodies ≡ c.args.bodies.now ++ (walk_members below c.args.path.now 0 c.as_slice.result.now images).bodies)
    × Tell g.D.Disk.image c.walk_members.new.disks (walk_members below c.args.path.now 0 c.as_slice.result.now images).images)
    (images : Images) (tell : Tell g.D.Disk.image c.args.disks.now images).
    (let read : Read = read_block c.args.setting.now true (good_kept (kept_at c.args.tree.now.heads c.args.path.now)) images sector_size (places_of c.args.bp.now) in
    let told : (c.in_ok-members.field-0 ≡ members_in read.found) × Tell g.D.Disk.image c.read_members.new.disks read.images = c.in_ok-members.ensures.told images tell in
    let named : Ok c.in-Ok.members ≡ members_in read.found = sym c.in-Ok.is ∙ told.0 in
    let m : Walk = walk_members below c.args.path.now 0 c.in-Ok.members read.images in
    let w : Walk = walk_read below c.args.path.now read in
    let b : BelowHead w m = walk_below below c.args.path.now read.found read.images c.in-Ok.members named in
    let went : (c.walk_members.new.errors ≡ c.args.errors.now ++ m.errors) × (c.walk_members.new.bodies ≡ c.args.bodies.now ++ m.bodies) × Tell g.D.Disk.image c.walk_members.new.disks m.images =
    subst (λ ls. (c.walk_members.new.errors ≡ c.args.errors.now ++ (walk_members below c.args.path.now 0 ls read.images).errors)
    × (c.walk_members.new.bodies ≡ c.args.bodies.now ++ (walk_members below c.args.path.now 0 ls read.images).bodies)
    × Tell g.D.Disk.image c.walk_members.new.disks (walk_members below c.args.path.now 0 ls read.images).images)
    c.as_slice.ensures (h read.images told.1) in
    subst (λ (w : Walk). (c.walk_members.new.errors ≡ c.args.errors.now ++ w.errors) × (c.walk_members.new.bodies ≡ c.args.bodies.now ++ w.bodies) × Tell g.D.Disk.image c.walk_members.new.disks w.images)
    (sym (walk_gang c.args.levels c.args.setting.now c.args.tree.now.heads c.args.path.now c.args.bp.now images c.if-not-bp.false some)) (
      went.0 ∙ ap (λ es. c.args.errors.now ++ es) (sym b.errors),
      went.1 ∙ ap (λ bs. c.args.bodies.now ++ bs) (sym b.bodies),
      subst (Tell g.D.Disk.image c.walk_members.new.disks) (sym b.images) went.2,
    )))
    c.walk_members.ensures.told

pub walk_pointer-returns-in-Err-clause-told : goal.walk_pointer-returns-in-Err-clause-told
walk_pointer-returns-in-Err-clause-told g t c =
    let no = c.if-levels-eq0.false in
    let some : 0 < c.args.levels = omega arith in
    let below : List ℕ → Bp → Images → Walk = walk (c.args.levels - 1) (kept_visit c.args.setting.now c.args.tree.now.heads) in
    on_if c.note_error-in-Err.result c.note_error-in-Err.ensures.ok
    (λ added x images tell.
    (let read : Read = read_block c.args.setting.now true (good_kept (kept_at c.args.tree.now.heads c.args.path.now)) images sector_size (places_of c.args.bp.now) in
    let told : (c.in_ok-members.field-0 ≡ members_in read.found) × Tell g.D.Disk.image c.read_members.new.disks read.images = c.in_ok-members.ensures.told images tell in
    let named : Err c.in-Err.error ≡ members_in read.found = sym c.in-Err.is ∙ told.0 in
    subst (λ (w : Walk). (c.note_error-in-Err.new.errors ≡ c.args.errors.now ++ w.errors) × (c.args.bodies.now ≡ c.args.bodies.now ++ w.bodies) × Tell g.D.Disk.image c.read_members.new.disks w.images)
    (sym (walk_gang c.args.levels c.args.setting.now c.args.tree.now.heads c.args.path.now c.args.bp.now images c.if-not-bp.false some ∙ walk_failed below c.args.path.now read.found read.images c.in-Err.error named))
    (added, sym (append-nil c.args.bodies.now), told.1)))

pub walk_pointer-returns-in-Ok-clause-sized : goal.walk_pointer-returns-in-Ok-clause-sized
walk_pointer-returns-in-Ok-clause-sized g t c =
    let no = c.if-levels-eq0.false in
    let some : 0 < c.args.levels = omega arith in
    let named : AreNamedAt c.args.tree.now.heads c.args.path.now c.in-Ok.members = subst (λ f. IfOk f (AreNamedAt c.args.tree.now.heads c.args.path.now)) c.in-Ok.is c.in_ok-members.ensures.kept in
    let here : AreNamedAt c.args.tree.now.heads c.args.path.now c.as_slice.result.now = subst (AreNamedAt c.args.tree.now.heads c.args.path.now) (sym c.as_slice.ensures) named in
    on_ok_weaker c.walk_members.result
    (λ h. sized_by _ _ _ _ _ _ _ _ (kept_below c.args.levels c.args.tree.now.heads c.args.path.now c.args.bp.now c.as_slice.result.now c.if-not-bp.false some here) h)
    c.walk_members.ensures.sized

falls_by : (levels count t : ℕ) → 0 < levels → 0 + count ≤ 3 → 5 * levels ≡ t → 5 * (levels - 1) + 1 + count < t
falls_by levels count t some few is = omega arith

deeper : (path levels : ℕ) → 0 < levels → path + levels ≤ 8 → path + (levels - 1) < 8
deeper path levels some h = omega arith

from_first : (n : ℕ) → n ≤ 3 → 0 + n ≤ 3
from_first n h = omega arith

pub walk_pointer-walk_members-requires : goal.walk_pointer-walk_members-requires
walk_pointer-walk_members-requires g t c κs within =
    let no = c.if-levels-eq0.false in
    let some : 0 < c.args.levels = omega arith in
    let count : length c.in-Ok.members ≤ 3 = subst (λ f. IfOk f (λ (ms : List Bp). length ms ≤ 3)) c.in-Ok.is c.in_ok-members.ensures.few in
    let few : 0 + length c.as_slice.result.now ≤ 3 = subst (λ (ms : List Bp). 0 + length ms ≤ 3) (sym c.as_slice.ensures) (from_first (length c.in-Ok.members) count) in
    let listed : AllByRecursion (Contains (tree_pointers c.args.tree.now)) c.as_slice.result.now =
    subst (AllByRecursion (Contains (tree_pointers c.args.tree.now))) (sym c.as_slice.ensures)
    (subst (λ f. IfOk f (λ (ms : List Bp). AllByRecursion (Contains (tree_pointers c.args.tree.now)) ms)) c.in-Ok.is c.in_ok-members.ensures.listed) in
    let bears : BearsTops c.args.setting.now (map g.D.Disk.bytes c.read_members.new.disks) = subst (BearsTops c.args.setting.now) (sym c.in_ok-members.ensures.handled.same.sizes) c.requires.bears in (
      falls_by c.args.levels (length c.as_slice.result.now) t some few c.decreases,
      (search rules, (bears, (c.requires.placed, (listed, (few, (deeper (length c.args.path.now) c.args.levels some c.requires.depth, c.requires.bodies)))))),
    )

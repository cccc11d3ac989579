-- Repairs under way: what was made and what is left.
use Rattle.std.proofs.Common.{◌≡◌, ℕ, ◌+◌, ◌<◌, ◌≤◌, ◌^◌, List, [], ◌∷◌, length, map, get_or, Bool, true, false, cond, filter, Option, Some, None, ◌⊎◌, inl, inr, refl, sym, ap, subst, ◌∙◌, arith, Contains}
use Rattle.std.specs.Prelude.{slice_index_or}
use Rattle.std.specs.List.{AllByRecursion}
use Rattle.std.proofs.lemmas.Bool.{cases_lt}
use Rattle.zio_disks.proofs.DiskLemmas.{map_past}
use Rattle.zio_types.specs.declared.error.Errno.{Errno}
use Rattle.zio_vqueue.specs.Queues.{end_of, is_queued}
use Rattle.zio_cksum.specs.Images.{Images, Setting}
use Rattle.zio_cksum.proofs.AllLemmas.{all_contained, all_contains, all_unmap, all_weaker}
use Rattle.zio_trace.specs.Leaves.{HaveSizes}
use Rattle.zio_trace.specs.TreeOrders.{Pairs}
use Rattle.zio_disks.specs.Disks.{Tell}
use Rattle.zio_groups.specs.declared.waiting.Answered.{Answered}
use Rattle.zio_groups.specs.declared.waiting.QueuedOp.{QueuedOp}
use Rattle.zio_groups.specs.Issued.{EndsOn, all_issued, written_spots, spot_of}
use Rattle.zio_groups.specs.LeafQueues.{Waits, ops_of}
use Rattle.zio_scrub.specs.declared.repairs.Repair.{Repair}
use Rattle.zio_scrub.specs.Queues.{AllWait, AreIssued, HaveAll, waiting_at, waits_at}
use Rattle.zio_scrub.specs.Repairs.{ClearOf, FitsRepair, IsRepairOf, IsRepairOn, errors_of, leaf_of, spots_of_all}
use Rattle.zio_scrub.specs.Scrubs.{error_of, failed_in, mend, one_failed, one_written, repaired_in, total}
use Rattle.zio_scrub.proofs.PickLemmas.{AllLie, all_got, kept_all, kept_by, kept_none, kept_same}
use Rattle.zio_scrub.proofs.RepairLemmas.{ArePicked, errors_length, group_images, group_sizes, group_total, heads_errors, kept_length, leaf_is, total_mapped, without_all}
use Rattle.zio_scrub.proofs.WaitLemmas.{numbers_left, picked_waits}

-- which repairs are left
abbrev pub left : List Repair → List Waits → ℕ → Bool
left repairs leaves t = waits_at leaves (leaf_of repairs t) t

abbrev pub all_left : List Repair → List Waits → List Repair
all_left repairs leaves = kept_by (left repairs leaves) 0 repairs

abbrev pub sum_of : (Option Errno → ℕ) → Setting → List Repair → ℕ
sum_of f s rs = total (λ (r : Repair). f (error_of s r)) rs

pub record AreCounted (s : Setting) (repairs : List Repair) (leaves : List Waits) (repaired failed : ℕ) : Type 0 where
  pub repaired_are : repaired + sum_of one_written s (all_left repairs leaves) ≡ sum_of one_written s repairs
  pub failed_are : failed + sum_of one_failed s (all_left repairs leaves) ≡ sum_of one_failed s repairs
  pub all : repaired + failed + length (all_left repairs leaves) ≡ length repairs

abbrev pub size_at : List ℕ → ℕ → ℕ
size_at sizes leaf = slice_index_or sizes leaf 0

-- the disks tell images from which what is left comes to what all comes to from the first
pub record IsUnderWay {D : Type 0} (image : D → List ℕ → Type 0) (s : Setting) (sizes : List ℕ) (repairs : List Repair) (leaves : List Waits)
    (images : Images) (disks : List D) : Type 0 where
  pub now : Images
  pub told : Tell image disks now
  pub sizes_are : HaveSizes (size_at sizes) now
  pub same : (mend s (all_left repairs leaves) now).images ≡ (mend s repairs images).images

lies_of : (sizes : List ℕ) (repairs : List Repair) → AllByRecursion (IsRepairOn sizes) repairs → AllLie (size_at sizes) repairs
lies_of sizes [] h = tt
lies_of sizes (r ∷ rs) h = (record { room = omega arith; lies = h.0.lies }, lies_of sizes rs h.1)

-- ---- the beginning

all_left_first : (repairs : List Repair) (leaves : List Waits) → HaveAll (IsRepairOf repairs) (leaf_of repairs) (length repairs) leaves
    → all_left repairs leaves ≡ repairs
all_left_first repairs leaves h = kept_all (left repairs leaves) 0 repairs (λ u l m. h.wait u (omega arith))

pub counted_first : (s : Setting) (repairs : List Repair) (leaves : List Waits)
    → HaveAll (IsRepairOf repairs) (leaf_of repairs) (length repairs) leaves → AreCounted s repairs leaves 0 0
counted_first s repairs leaves h =
    let e : all_left repairs leaves ≡ repairs = all_left_first repairs leaves h in
    let a = ap (λ (rs : List Repair). sum_of one_written s rs) e in
    let b = ap (λ (rs : List Repair). sum_of one_failed s rs) e in
    let c = ap (λ (rs : List Repair). length rs) e in
    record { repaired_are = omega (arith, a); failed_are = omega (arith, b); all = omega (arith, c) }

pub under_way_first : {D : Type 0} (image : D → List ℕ → Type 0) (s : Setting) (sizes : List ℕ) (repairs : List Repair) (leaves : List Waits)
    (images : Images) (disks : List D) → HaveAll (IsRepairOf repairs) (leaf_of repairs) (length repairs) leaves
    → HaveSizes (size_at sizes) images → Tell image disks images → IsUnderWay image s sizes repairs leaves images disks
under_way_first image s sizes repairs leaves images disks h have told = record {
  now = images;
  told = told;
  sizes_are = have;
  same = ap (λ (rs : List Repair). (mend s rs images).images) (all_left_first repairs leaves h);
}

-- ---- a group

left_now : {D : Type 0} (image : D → List ℕ → Type 0) (s : Setting) (repairs : List Repair) (leaf : ℕ) (old new : List Waits)
    (before after : List D) (answers : List Answered) → AllWait (IsRepairOf repairs) old → (h : AreIssued image s leaf old new before after answers)
    → all_left repairs new ≡ kept_by (without_all (left repairs old) h.members) 0 repairs
left_now image s repairs leaf old new before after answers all h =
    kept_same (left repairs new) (without_all (left repairs old) h.members) 0 repairs
    (λ u l m. numbers_left image s (leaf_of repairs) leaf old new before after answers h
    (all_weaker (Contains (waiting_at old leaf)) (λ (w : QueuedOp). leaf_of repairs w.op.ticket ≡ leaf) h.members
    (λ w c. at_leaf w (all_contains (IsRepairOf repairs leaf) (waiting_at old leaf) w (all leaf) c)) h.among) u)
  where
    at_leaf : (w : QueuedOp) → IsRepairOf repairs leaf w → leaf_of repairs w.op.ticket ≡ leaf
    at_leaf w r = leaf_is repairs w.op.ticket r.repair r.at ∙ r.here

picked : {D : Type 0} (image : D → List ℕ → Type 0) (s : Setting) (repairs : List Repair) (leaf : ℕ) (old new : List Waits)
    (before after : List D) (answers : List Answered) → AllWait (IsRepairOf repairs) old → (h : AreIssued image s leaf old new before after answers)
    → ArePicked repairs leaf (left repairs old) h.members
picked image s repairs leaf old new before after answers all h =
    let are : AllByRecursion (IsRepairOf repairs leaf) h.members =
    all_weaker (Contains (waiting_at old leaf)) (IsRepairOf repairs leaf) h.members
    (λ w c. all_contains (IsRepairOf repairs leaf) (waiting_at old leaf) w (all leaf) c) h.among in
    record {
      are = are;
      left = all_weaker (Contains (waiting_at old leaf)) (λ (w : QueuedOp). left repairs old w.op.ticket ≡ true) h.members
          (λ w c.
          let r : IsRepairOf repairs leaf w = all_contains (IsRepairOf repairs leaf) (waiting_at old leaf) w (all leaf) c in
          subst (λ (k : ℕ). waits_at old k w.op.ticket ≡ true) (sym (leaf_is repairs w.op.ticket r.repair r.at ∙ r.here)) (picked_waits (waiting_at old leaf) w c))
          h.among;
      apart = h.apart;
    }

pub counted_next : {D : Type 0} (image : D → List ℕ → Type 0) (s : Setting) (repairs : List Repair) (leaf : ℕ) (old new : List Waits)
    (before after : List D) (answers : List Answered) (repaired failed repaired_now failed_now : ℕ) → AllWait (IsRepairOf repairs) old
    → AreIssued image s leaf old new before after answers → AreCounted s repairs old repaired failed
    → repaired_now ≡ repaired + repaired_in (errors_of answers) → failed_now ≡ failed + failed_in (errors_of answers)
    → AreCounted s repairs new repaired_now failed_now
counted_next image s repairs leaf old new before after answers repaired failed repaired_now failed_now all h counted r f =
    let p = picked image s repairs leaf old new before after answers all h in
    let e : all_left repairs new ≡ kept_by (without_all (left repairs old) h.members) 0 repairs = left_now image s repairs leaf old new before after answers all h in
    let errors : errors_of answers ≡ errors_of (all_issued s leaf h.members []).answers = heads_errors answers (all_issued s leaf h.members []).answers (h.heads []) in
    let wr = group_total one_written s repairs leaf h.members (left repairs old) [] p in
    let fl = group_total one_failed s repairs leaf h.members (left repairs old) [] p in
    let ln = group_total (λ (x : Option Errno). 1) s repairs leaf h.members (left repairs old) [] p in
    let wa : repaired_in (errors_of answers) ≡ repaired_in (errors_of (all_issued s leaf h.members []).answers) = ap repaired_in errors in
    let fa : failed_in (errors_of answers) ≡ failed_in (errors_of (all_issued s leaf h.members []).answers) = ap failed_in errors in
    let wn = ap (λ (rs : List Repair). sum_of one_written s rs) e in
    let fn = ap (λ (rs : List Repair). sum_of one_failed s rs) e in
    let nn = ap (λ (rs : List Repair). length rs) e in
    let both = one_each (errors_of (all_issued s leaf h.members []).answers) in
    let lo = kept_length (all_left repairs old) in
    let ln2 = kept_length (kept_by (without_all (left repairs old) h.members) 0 repairs) in
    let ra = counted.repaired_are in
    let fb = counted.failed_are in
    let al = counted.all in
    record {
      repaired_are = omega (arith, wr, wa, wn, ra, r);
      failed_are = omega (arith, fl, fa, fn, fb, f);
      all = omega (arith, ln, wa, fa, nn, both, lo, ln2, al, r, f);
    }
  where
    one_each : (es : List (Option Errno)) → repaired_in es + failed_in es ≡ total (λ (x : Option Errno). 1) es
    one_each [] = refl
    one_each (e ∷ es) = omega (arith, one_each es, one e)
      where
        one : (x : Option Errno) → one_written x + one_failed x ≡ 1
        one None = refl
        one (Some x) = refl

-- the answers are no more than what was left
pub counted_room : {D : Type 0} (image : D → List ℕ → Type 0) (s : Setting) (repairs : List Repair) (leaf : ℕ) (old new : List Waits)
    (before after : List D) (answers : List Answered) (repaired failed : ℕ) → AllWait (IsRepairOf repairs) old
    → AreIssued image s leaf old new before after answers → AreCounted s repairs old repaired failed → length repairs < 2 ^ 32
    → repaired + failed + length answers < 2 ^ 64
counted_room image s repairs leaf old new before after answers repaired failed all h counted few =
    let p = picked image s repairs leaf old new before after answers all h in
    let errors : errors_of answers ≡ errors_of (all_issued s leaf h.members []).answers = heads_errors answers (all_issued s leaf h.members []).answers (h.heads []) in
    let ln = group_total (λ (x : Option Errno). 1) s repairs leaf h.members (left repairs old) [] p in
    let el = errors_length answers in
    let same = ap (λ (es : List (Option Errno)). total (λ (x : Option Errno). 1) es) errors in
    let lo = kept_length (all_left repairs old) in
    let al = counted.all in
    omega (arith, ln, el, same, lo, al)

pub under_way_next : {D : Type 0} (image : D → List ℕ → Type 0) (s : Setting) (sizes : List ℕ) (repairs : List Repair) (leaf : ℕ) (old new : List Waits)
    (images : Images) (before after : List D) (answers : List Answered) → AllByRecursion (IsRepairOn sizes) repairs → Pairs ClearOf repairs
    → AllWait (IsRepairOf repairs) old → AreIssued image s leaf old new before after answers
    → IsUnderWay image s sizes repairs old images before → IsUnderWay image s sizes repairs new images after
under_way_next image s sizes repairs leaf old new images before after answers fits pairs all h u =
    let p = picked image s repairs leaf old new before after answers all h in
    let lies = lies_of sizes repairs fits in
    let e : all_left repairs new ≡ kept_by (without_all (left repairs old) h.members) 0 repairs = left_now image s repairs leaf old new before after answers all h in
    let now : Images = (all_issued s leaf h.members u.now).images in
    record {
      now = now;
      told = (h.told u.now u.told).1;
      sizes_are = group_sizes s (size_at sizes) repairs leaf h.members (left repairs old) u.now u.sizes_are lies p;
      same = ap (λ (rs : List Repair). (mend s rs now).images) e
          ∙ sym (group_images s (size_at sizes) repairs leaf h.members (left repairs old) u.now u.sizes_are lies pairs p) ∙ u.same;
    }

-- ---- the end

none_left : (repairs : List Repair) (leaves : List Waits) → ((leaf : ℕ) → waiting_at leaves leaf ≡ []) → all_left repairs leaves ≡ []
none_left repairs leaves none =
    kept_none (left repairs leaves) 0 repairs (λ u l m. ap (λ (ws : List QueuedOp). is_queued u (ops_of ws)) (none (leaf_of repairs u)))

pub counted_last : (s : Setting) (repairs : List Repair) (leaves : List Waits) (repaired failed : ℕ) → ((leaf : ℕ) → waiting_at leaves leaf ≡ [])
    → AreCounted s repairs leaves repaired failed
    → (repaired ≡ repaired_in (map (error_of s) repairs)) × (failed ≡ failed_in (map (error_of s) repairs))
counted_last s repairs leaves repaired failed none h =
    let e : all_left repairs leaves ≡ [] = none_left repairs leaves none in
    let a = ap (λ (rs : List Repair). sum_of one_written s rs) e in
    let b = ap (λ (rs : List Repair). sum_of one_failed s rs) e in
    (omega (arith, a, h.repaired_are, total_mapped one_written s repairs), omega (arith, b, h.failed_are, total_mapped one_failed s repairs))

pub under_way_last : {D : Type 0} (image : D → List ℕ → Type 0) (s : Setting) (sizes : List ℕ) (repairs : List Repair) (leaves : List Waits)
    (images : Images) (disks : List D) → ((leaf : ℕ) → waiting_at leaves leaf ≡ []) → IsUnderWay image s sizes repairs leaves images disks
    → Tell image disks (mend s repairs images).images
under_way_last image s sizes repairs leaves images disks none u =
    subst (Tell image disks) (sym (ap (λ (rs : List Repair). (mend s rs u.now).images) (none_left repairs leaves none)) ∙ u.same) u.told

-- ---- what a group may touch

pub ends_on : (sizes : List ℕ) (repairs : List Repair) (leaves : List Waits) → AllByRecursion (IsRepairOn sizes) repairs
    → AllWait (IsRepairOf repairs) leaves → AllWait (EndsOn sizes) leaves
ends_on sizes repairs leaves fits all = λ leaf.
    all_weaker (IsRepairOf repairs leaf) (EndsOn sizes leaf) (waiting_at leaves leaf) (λ w r. one leaf w r) (all leaf)
  where
    one : (leaf : ℕ) (w : QueuedOp) → IsRepairOf repairs leaf w → EndsOn sizes leaf w
    one leaf w r =
        let f : IsRepairOn sizes r.repair = all_got (IsRepairOn sizes) repairs w.op.ticket r.repair r.at.within r.at.is fits in
        subst (λ (v : QueuedOp). end_of v.op ≤ slice_index_or sizes leaf 0) (sym r.is)
        (subst (λ (k : ℕ). r.repair.spot.at + r.repair.spot.span ≤ slice_index_or sizes k 0) r.here f.lies)

all_mapped : (rs : List Repair) → AllByRecursion (λ (x : Repair). Contains (spots_of_all rs) x.spot) rs
all_mapped rs = all_unmap (Contains (spots_of_all rs)) (λ (x : Repair). x.spot) rs (all_contained (spots_of_all rs))

pub spots_among : (repairs : List Repair) (leaf : ℕ) (ws : List QueuedOp) → AllByRecursion (IsRepairOf repairs leaf) ws
    → AllByRecursion (Contains (spots_of_all repairs)) (written_spots leaf ws)
spots_among repairs leaf [] h = tt
spots_among repairs leaf (w ∷ ws) h = by w.op.write (spots_among repairs leaf ws h.1)
  where
    one : Contains (spots_of_all repairs) (spot_of leaf w.op)
    one =
        subst (λ (v : QueuedOp). Contains (spots_of_all repairs) (spot_of leaf v.op)) (sym h.0.is)
        (subst (λ (k : ℕ). Contains (spots_of_all repairs) (record { leaf = k; at = h.0.repair.spot.at; span = h.0.repair.spot.span })) h.0.here
        (mapped repairs w.op.ticket h.0.repair h.0.at.within h.0.at.is))
      where
        mapped : (rs : List Repair) (n : ℕ) (r : Repair) → n < length rs → get_or rs n r ≡ r → Contains (spots_of_all rs) r.spot
        mapped rs n r l e = all_got (λ (x : Repair). Contains (spots_of_all rs) x.spot) rs n r l e (all_mapped rs)

    by : (b : Bool) → AllByRecursion (Contains (spots_of_all repairs)) (written_spots leaf ws)
        → AllByRecursion (Contains (spots_of_all repairs)) (map (λ (v : QueuedOp). spot_of leaf v.op) (cond b (w ∷ filter (λ (v : QueuedOp). v.op.write) ws) (filter (λ (v : QueuedOp). v.op.write) ws)))
    by true rest = (one, rest)
    by false rest = rest

-- a repair that lies on the disks fits a queue of theirs
pub fit_queues : {D : Type 0} (bytes : D → ℕ) (disks : List D) (repairs : List Repair) → AllByRecursion (IsRepairOn (map bytes disks)) repairs
    → AllByRecursion (FitsRepair (length disks)) repairs
fit_queues bytes disks [] h = tt
fit_queues bytes disks (r ∷ rs) h = (
  record {
    queue = record { there = within (cases_lt r.spot.leaf (length disks)); small = h.0.small; device = h.0.device };
    room = h.0.room;
  },
  fit_queues bytes disks rs h.1,
)
  where
    within : (r.spot.leaf < length disks) ⊎ (length disks ≤ r.spot.leaf) → r.spot.leaf < length disks
    within (inl l) = l
    within (inr past) =
        let none : slice_index_or (map bytes disks) r.spot.leaf 0 ≡ 0 = map_past bytes disks r.spot.leaf past in
        let some = h.0.some in
        let lies = h.0.lies in
        absurd (omega arith)

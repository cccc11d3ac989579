-- Repairs that are put into the queues, and groups of them.
use Rattle.std.proofs.Common.{◌≡◌, ℕ, ◌+◌, ◌≤◌, List, [], ◌∷◌, length, map, Bool, true, false, ◌&&◌, ◌||◌, not, Option, refl, sym, ap, subst, ◌∙◌, arith}
use Rattle.std.specs.Prelude.{◌==◌}
use Rattle.std.specs.List.{AllByRecursion}
use Rattle.std.proofs.lemmas.Bool.Decides.{nat_tests}
use Rattle.std.proofs.lemmas.List.{get_or_read}
use Rattle.zio_types.specs.declared.error.Errno.{Errno}
use Rattle.zio_vqueue.specs.declared.op.Op.{Op}
use Rattle.zio_vqueue.specs.Queues.{AreApart, FitsDevice, is_queued}
use Rattle.zio_cksum.specs.Images.{Images, Setting, met, padded_to, write_leaf}
use Rattle.zio_trace.specs.Leaves.{HaveSizes, LiesOn}
use Rattle.zio_trace.specs.TreeOrders.{Pairs}
use Rattle.zio_trace.proofs.LeafLemmas.{leaves_commute, met_answer}
use Rattle.zio_groups.specs.declared.waiting.Answered.{Answered}
use Rattle.zio_groups.specs.Issued.{OneIssued, all_issued, head_of, one_issued, write_answered}
use Rattle.zio_groups.specs.declared.waiting.QueuedOp.{QueuedOp}
use Rattle.zio_groups.specs.LeafQueues.{Waits, ops_of, waiting_with}
use Rattle.zio_scrub.specs.declared.repairs.Repair.{Repair}
use Rattle.zio_scrub.specs.Queues.{HaveAll, IsPut}
use Rattle.zio_scrub.specs.Reads.{IsAt}
use Rattle.zio_scrub.specs.Repairs.{ClearOf, FitsRepair, IsRepairOf, errors_of, leaf_of, no_repair, write_op}
use Rattle.zio_scrub.specs.Scrubs.{error_of, mend, total}
use Rattle.zio_scrub.proofs.MendLemmas.{as_store}
use Rattle.zio_scrub.proofs.PickLemmas.{AllLie, after, all_got, but, kept_by, kept_same, pick_images, pick_total}
use Rattle.zio_scrub.proofs.WaitLemmas.{have_more}

pub fits_at : (leaves : ℕ) (repairs : List Repair) (n : ℕ) (r : Repair) → AllByRecursion (FitsRepair leaves) repairs → IsAt repairs n r → FitsRepair leaves r
fits_at leaves repairs n r fits at = all_got (FitsRepair leaves) repairs n r at.within at.is fits

pub leaf_is : (repairs : List Repair) (n : ℕ) (r : Repair) → IsAt repairs n r → leaf_of repairs n ≡ r.spot.leaf
leaf_is repairs n r at = ap (λ (x : Repair). x.spot.leaf) (sym (get_or_read repairs n r at.within (sym at.is) no_repair))

waits_for : (repairs : List Repair) (n : ℕ) (r : Repair) (op : Op) → IsAt repairs n r → op ≡ write_op n r.spot
    → IsRepairOf repairs r.spot.leaf (waiting_with op r.bytes)
waits_for repairs n r op at is =
    subst (λ (o : Op). IsRepairOf repairs r.spot.leaf (waiting_with o r.bytes)) (sym is)
    (record { repair = r; at = at; here = refl; is = refl })

pub repair_put : (repairs : List Repair) (n m : ℕ) (r : Repair) (op : Op) (old new : List Waits) → IsAt repairs n r → op ≡ write_op n r.spot
    → IsPut r.spot.leaf (waiting_with op r.bytes) old new → HaveAll (IsRepairOf repairs) (leaf_of repairs) n old → m ≡ n + 1
    → HaveAll (IsRepairOf repairs) (leaf_of repairs) m new
repair_put repairs n m r op old new at is put have more =
    have_more (IsRepairOf repairs) (leaf_of repairs) n m r.spot.leaf (waiting_with op r.bytes) old new have put
    (ap (λ (o : Op). o.ticket) is) (leaf_is repairs n r at) more (waits_for repairs n r op at is)

pub op_fits : (leaves n : ℕ) (r : Repair) (op : Op) → FitsRepair leaves r → op ≡ write_op n r.spot → FitsDevice op
op_fits leaves n r op fits is = subst FitsDevice (sym is) fits.queue.device

pub op_room : (leaves n : ℕ) (r : Repair) (op : Op) → FitsRepair leaves r → op ≡ write_op n r.spot → length r.bytes ≤ op.len
op_room leaves n r op fits is = subst (λ (o : Op). length r.bytes ≤ o.len) (sym is) fits.room

-- ---- a group of repairs

-- each of these waits for a repair at its leaf, and is left by the test
pub record ArePicked (repairs : List Repair) (leaf : ℕ) (keep : ℕ → Bool) (ws : List QueuedOp) : Type 0 where
  pub are : AllByRecursion (IsRepairOf repairs leaf) ws
  pub left : AllByRecursion (λ (w : QueuedOp). keep w.op.ticket ≡ true) ws
  pub apart : AreApart (ops_of ws)

abbrev pub without_all : (ℕ → Bool) → List QueuedOp → ℕ → Bool
without_all keep ws t = keep t && not (is_queued t (ops_of ws))

but_without : (keep : ℕ → Bool) (w : QueuedOp) (ws : List QueuedOp) (t : ℕ)
    → without_all (but keep w.op.ticket) ws t ≡ without_all keep (w ∷ ws) t
but_without keep w ws t = by (keep t) (w.op.ticket == t) (is_queued t (ops_of ws))
  where
    by : (q a b : Bool) → ((q && not a) && not b) ≡ (q && not (a || b))
    by true true b = refl
    by true false b = refl
    by false a b = refl

-- the others are left once the first is gone
still_left : (keep : ℕ → Bool) (t : ℕ) (ws : List QueuedOp) → is_queued t (ops_of ws) ≡ false
    → AllByRecursion (λ (w : QueuedOp). keep w.op.ticket ≡ true) ws → AllByRecursion (λ (w : QueuedOp). but keep t w.op.ticket ≡ true) ws
still_left keep t [] e h = tt
still_left keep t (w ∷ ws) e h =
    let both = neither (w.op.ticket == t) (is_queued t (ops_of ws)) e in
    (there (keep w.op.ticket) (t == w.op.ticket) h.0 (turned w.op.ticket t both.0), still_left keep t ws both.1 h.1)
  where
    neither : (a b : Bool) → (a || b) ≡ false → (a ≡ false) × (b ≡ false)
    neither true b e = let no : ⊥ = cc in absurd no
    neither false b e = (refl, e)

    turned : (a b : ℕ) → (a == b) ≡ false → (b == a) ≡ false
    turned a b e = grind (arith, nat_tests)

    there : (a b : Bool) → a ≡ true → b ≡ false → (a && not b) ≡ true
    there a b e f = (λ i. e i && not (f i))

-- what a write of it does
written : (s : Setting) (repairs : List Repair) (leaf : ℕ) (w : QueuedOp) (h : IsRepairOf repairs leaf w) (images : Images)
    → one_issued s leaf w images ≡ write_answered w.op.ticket (write_leaf s false h.repair.bytes images h.repair.spot)
written s repairs leaf w h images =
    subst (λ (v : QueuedOp). one_issued s leaf v images ≡ write_answered w.op.ticket (write_leaf s false h.repair.bytes images h.repair.spot)) (sym h.is)
    (subst (λ (k : ℕ). one_issued s k (record { op = write_op w.op.ticket h.repair.spot; bytes = h.repair.bytes }) images
    ≡ write_answered w.op.ticket (write_leaf s false h.repair.bytes images h.repair.spot)) h.here refl)

pub group_images : (s : Setting) (sizes : ℕ → ℕ) (repairs : List Repair) (leaf : ℕ) (ws : List QueuedOp) (keep : ℕ → Bool) (images : Images)
    → HaveSizes sizes images → AllLie sizes repairs → Pairs ClearOf repairs → ArePicked repairs leaf keep ws
    → (mend s (kept_by keep 0 repairs) images).images
    ≡ (mend s (kept_by (without_all keep ws) 0 repairs) (all_issued s leaf ws images).images).images
group_images s sizes repairs leaf [] keep images have lies pairs h =
    ap (λ (rs : List Repair). (mend s rs images).images) (kept_same keep (without_all keep []) 0 repairs (λ u l m. same (keep u)))
  where
    same : (b : Bool) → b ≡ (b && not false)
    same true = refl
    same false = refl
group_images s sizes repairs leaf (w ∷ ws) keep images have lies pairs h =
    let one : IsRepairOf repairs leaf w = h.are.0 in
    let r : Repair = one.repair in
    let now : Images = after s images r in
    let is : (one_issued s leaf w images).images ≡ now = ap (λ (x : OneIssued). x.images) (written s repairs leaf w one images) in
    let lie : LiesOn sizes (as_store r) = all_got (λ (x : Repair). LiesOn sizes (as_store x)) repairs w.op.ticket r one.at.within one.at.is lies in
    let rest : ArePicked repairs leaf (but keep w.op.ticket) ws =
    record { are = h.are.1; left = still_left keep w.op.ticket ws h.apart.0 h.left.1; apart = h.apart.1 } in
    pick_images s sizes keep 0 w.op.ticket repairs images w.op.ticket r have lies pairs one.at.within one.at.is (omega arith) h.left.0
    ∙ group_images s sizes repairs leaf ws (but keep w.op.ticket) now ((leaves_commute s sizes).sound (as_store r) images have lie) lies pairs rest
    ∙ ap (λ (rs : List Repair). (mend s rs (all_issued s leaf ws now).images).images)
    (kept_same (without_all (but keep w.op.ticket) ws) (without_all keep (w ∷ ws)) 0 repairs (λ u l m. but_without keep w ws u))
    ∙ ap (λ (i : Images). (mend s (kept_by (without_all keep (w ∷ ws)) 0 repairs) (all_issued s leaf ws i).images).images) (sym is)

pub group_sizes : (s : Setting) (sizes : ℕ → ℕ) (repairs : List Repair) (leaf : ℕ) (ws : List QueuedOp) (keep : ℕ → Bool) (images : Images)
    → HaveSizes sizes images → AllLie sizes repairs → ArePicked repairs leaf keep ws → HaveSizes sizes (all_issued s leaf ws images).images
group_sizes s sizes repairs leaf [] keep images have lies h = have
group_sizes s sizes repairs leaf (w ∷ ws) keep images have lies h =
    let one : IsRepairOf repairs leaf w = h.are.0 in
    let r : Repair = one.repair in
    let is : (one_issued s leaf w images).images ≡ after s images r = ap (λ (x : OneIssued). x.images) (written s repairs leaf w one images) in
    let lie : LiesOn sizes (as_store r) = all_got (λ (x : Repair). LiesOn sizes (as_store x)) repairs w.op.ticket r one.at.within one.at.is lies in
    let rest : ArePicked repairs leaf (but keep w.op.ticket) ws =
    record { are = h.are.1; left = still_left keep w.op.ticket ws h.apart.0 h.left.1; apart = h.apart.1 } in
    group_sizes s sizes repairs leaf ws (but keep w.op.ticket) (one_issued s leaf w images).images
    (subst (HaveSizes sizes) (sym is) ((leaves_commute s sizes).sound (as_store r) images have lie)) lies rest

-- the same of what is counted of each
pub group_total : (f : Option Errno → ℕ) (s : Setting) (repairs : List Repair) (leaf : ℕ) (ws : List QueuedOp) (keep : ℕ → Bool) (images : Images)
    → ArePicked repairs leaf keep ws
    → total (λ (r : Repair). f (error_of s r)) (kept_by keep 0 repairs)
    ≡ total f (errors_of (all_issued s leaf ws images).answers) + total (λ (r : Repair). f (error_of s r)) (kept_by (without_all keep ws) 0 repairs)
group_total f s repairs leaf [] keep images h =
    let e = ap (λ (rs : List Repair). total (λ (r : Repair). f (error_of s r)) rs) (kept_same keep (without_all keep []) 0 repairs (λ u l m. same (keep u))) in
    omega (arith, e)
  where
    same : (b : Bool) → b ≡ (b && not false)
    same true = refl
    same false = refl
group_total f s repairs leaf (w ∷ ws) keep images h =
    let one : IsRepairOf repairs leaf w = h.are.0 in
    let r : Repair = one.repair in
    let is : (one_issued s leaf w images).answer.error ≡ (write_leaf s false r.bytes images r.spot).error =
    ap (λ (x : OneIssued). x.answer.error) (written s repairs leaf w one images) in
    let same : (write_leaf s false r.bytes images r.spot).error ≡ error_of s r =
    met_answer (met s false true r.spot) images [] r.spot (padded_to r.spot.span r.bytes) in
    let here : f (one_issued s leaf w images).answer.error ≡ f (error_of s r) = ap f (is ∙ same) in
    let rest : ArePicked repairs leaf (but keep w.op.ticket) ws =
    record { are = h.are.1; left = still_left keep w.op.ticket ws h.apart.0 h.left.1; apart = h.apart.1 } in
    let first = pick_total (λ (x : Repair). f (error_of s x)) keep 0 w.op.ticket repairs w.op.ticket r one.at.within one.at.is (omega arith) h.left.0 in
    let more = group_total f s repairs leaf ws (but keep w.op.ticket) (one_issued s leaf w images).images rest in
    let end = ap (λ (rs : List Repair). total (λ (x : Repair). f (error_of s x)) rs)
    (kept_same (without_all (but keep w.op.ticket) ws) (without_all keep (w ∷ ws)) 0 repairs (λ u l m. but_without keep w ws u)) in
    omega (arith, first, more, end, here)

-- ---- errors of answers

pub heads_errors : (xs ys : List Answered) → map head_of xs ≡ map head_of ys → errors_of xs ≡ errors_of ys
heads_errors [] [] e = refl
heads_errors [] (y ∷ ys) e = absurd (let no : ⊥ = cc in no)
heads_errors (x ∷ xs) [] e = absurd (let no : ⊥ = cc in no)
heads_errors (x ∷ xs) (y ∷ ys) e =
    let first : head_of x ≡ head_of y = cc in
    let others : map head_of xs ≡ map head_of ys = cc in
    let error : x.error ≡ y.error = ap (λ (p : ℕ × Option Errno). p.1) first in
    let rest : errors_of xs ≡ errors_of ys = heads_errors xs ys others in
    cc

pub errors_length : (xs : List Answered) → total (λ (e : Option Errno). 1) (errors_of xs) ≡ length xs
errors_length [] = refl
errors_length (x ∷ xs) = omega (arith, errors_length xs)

pub kept_length : (rs : List Repair) → total (λ (r : Repair). 1) rs ≡ length rs
kept_length [] = refl
kept_length (r ∷ rs) = omega (arith, kept_length rs)

pub total_mapped : (f : Option Errno → ℕ) (s : Setting) (rs : List Repair) → total f (map (error_of s) rs) ≡ total (λ (r : Repair). f (error_of s r)) rs
total_mapped f s [] = refl
total_mapped f s (r ∷ rs) = omega (arith, total_mapped f s rs)

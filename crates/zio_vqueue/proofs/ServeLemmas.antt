-- Which class is served, and which operation of it first, as the shelves tell it.
use Rattle.std.proofs.Common.{◌≡◌, ℕ, List, [], ◌∷◌, Bool, true, false, cond, ◌&&◌, ◌||◌, ◌==◌, nat_le, nat_lt, Option, Some, None, refl, sym, ap, ◌∙◌, arith, filter, subst, find, slice_get, is_some, get_or, option_map}
use Rattle.std.proofs.lemmas.Bool.Decides.{nat_tests}
use Rattle.std.specs.List.{list_any}
use Rattle.std.specs.List.Sorted.{IsStrictlySortedBy}
use Rattle.std.specs.Map.{keys_of, values_of}
use Rattle.std.specs.Ordering.{is_eq, ordering_reverse}
use Rattle.std.specs.declared.cmp.Ordering.TheVariants.{Greater}
use Rattle.zio_types.specs.declared.request.Prio.{Prio}
use Rattle.zio_types.specs.declared.request.Prio.TheVariants.{SyncRead, SyncWrite, AsyncRead, AsyncWrite, Scrub}
use Rattle.zio_vqueue.specs.declared.op.Op.{Op}
use Rattle.zio_vqueue.specs.declared.spots.Spot.{Spot}
use Rattle.zio_vqueue.specs.Classes.{class_number, classes, is_sync, maximum_of, minimum_of}
use Rattle.zio_vqueue.specs.Queues.{Queue, arranged, eligible, first_in, in_turn, is_due, is_in_class, or_else, put_before, turn_in}
use Rattle.zio_vqueue.specs.Spots.{AreCounted, AreThere, IsIndexed, IsShelved, at_spot, at_time, first_on, first_served, is_due_by, is_on_shelf, is_sought_at, kept_at, spot_cmp, start_of}
use Rattle.zio_vqueue.proofs.CountLemmas.{class_counted}
use Rattle.zio_vqueue.proofs.RangeLemmas.{filter_alike}
use Rattle.zio_vqueue.proofs.ShelfLemmas.{AllAfter, AreRanked, class_is_shelf, ranked-arranged_on, self_equal, shelf_is, shelf_of, values-arranged_on, values-class_shelf}
use Rattle.zio_vqueue.proofs.SpotLemmas.{spot_total}

-- ---- whether there is one

abbrev has_any : {X : Type 0} → List X → Bool
has_any xs = is_some (slice_get xs 0)

any-values : (fs : List (Spot × Op)) → has_any fs ≡ has_any (values_of fs)
any-values [] = refl
any-values (f ∷ fs) = refl

any-put_before : (r : Op → ℕ) (o : Op) (os : List Op) → has_any (put_before r o os) ≡ true
any-put_before r o [] = refl
any-put_before r o (p ∷ ps) = go (nat_le (r o) (r p))
  where
    go : (b : Bool) → has_any (cond b (o ∷ p ∷ ps) (p ∷ put_before r o ps)) ≡ true
    go true = refl
    go false = refl

any-arranged : (r : Op → ℕ) (os : List Op) → has_any (arranged r os) ≡ has_any os
any-arranged r [] = refl
any-arranged r (o ∷ os) = any-put_before r o (arranged r os)

any-filter : (p : Op → Bool) (os : List Op) → has_any (filter p os) ≡ list_any p os
any-filter p [] = refl
any-filter p (o ∷ os) = go (p o) (any-filter p os)
  where
    go : (b : Bool) → has_any (filter p os) ≡ list_any p os → has_any (cond b (o ∷ filter p os) (filter p os)) ≡ (b || list_any p os)
    go true h = refl
    go false h = h

from_zero : (s : ℕ) (fs : List (Spot × Op)) → filter (is_on_shelf s 0) fs ≡ shelf_of s fs
from_zero s fs = filter_alike (is_on_shelf s 0) (λ f. f.0.shelf == s) (λ f. go (f.0.shelf == s) f.0.rank) fs
  where
    go : (b : Bool) (n : ℕ) → (b && nat_le 0 n) ≡ b
    go true n = grind (arith, nat_tests)
    go false n = refl

pub class_waits : (c : Prio) (es : List (ℕ × Op)) (fs : List (Spot × Op)) → IsIndexed es fs → is_some (first_on (class_number c) 0 fs) ≡ list_any (is_in_class c) (values_of es)
class_waits c es fs h =
    ap (λ (gs : List (Spot × Op)). has_any gs) (from_zero (class_number c) fs) ∙ any-values (shelf_of (class_number c) fs)
    ∙ ap (λ (os : List Op). has_any os) (values-class_shelf c es fs h.timed h.sorted h.shelved)
    ∙ any-arranged (turn_in (is_sync c)) (filter (is_in_class c) (values_of es)) ∙ any-filter (is_in_class c) (values_of es)

find_alike : {X : Type 0} (p q : X → Bool) → ((x : X) → p x ≡ q x) → (xs : List X) → find p xs ≡ find q xs
find_alike p q h [] = refl
find_alike p q h (x ∷ xs) = ap (λ b. cond b (Some x) (find p xs)) (h x) ∙ ap (λ r. cond (q x) (Some x) r) (find_alike p q h xs)

minimum_at : (c : Prio) → get_or (10 ∷ 10 ∷ 1 ∷ 2 ∷ 1 ∷ []) (class_number c) 0 ≡ minimum_of c
minimum_at SyncRead = refl
minimum_at SyncWrite = refl
minimum_at AsyncRead = refl
minimum_at AsyncWrite = refl
minimum_at Scrub = refl

pub maximum_at : (c : Prio) → get_or (10 ∷ 10 ∷ 3 ∷ 10 ∷ 3 ∷ []) (class_number c) 0 ≡ maximum_of c
maximum_at SyncRead = refl
maximum_at SyncWrite = refl
maximum_at AsyncRead = refl
maximum_at AsyncWrite = refl
maximum_at Scrub = refl

due_alike : (limits : List ℕ) (limit : Prio → ℕ) → ((c : Prio) → get_or limits (class_number c) 0 ≡ limit c) → (q : Queue) (waiting : List ℕ) → AreCounted waiting q.queued →
    find (is_due_by waiting q.active limits) classes ≡ find (is_due limit q) classes
due_alike limits limit same q waiting h =
    find_alike (is_due_by waiting q.active limits) (is_due limit q)
    (λ c. ap (λ b. b && nat_lt (get_or q.active (class_number c) 0) (get_or limits (class_number c) 0)) (class_counted c waiting q.queued h)
    ∙ ap (λ n. list_any (is_in_class c) q.queued && nat_lt (get_or q.active (class_number c) 0) n) (same c)) classes

pub eligible_alike : (q : Queue) (waiting : List ℕ) → AreCounted waiting q.queued →
    or_else (find (is_due_by waiting q.active (10 ∷ 10 ∷ 1 ∷ 2 ∷ 1 ∷ [])) classes) (find (is_due_by waiting q.active (10 ∷ 10 ∷ 3 ∷ 10 ∷ 3 ∷ [])) classes) ≡ eligible q
eligible_alike q waiting h =
    ap (λ r. or_else r (find (is_due_by waiting q.active (10 ∷ 10 ∷ 3 ∷ 10 ∷ 3 ∷ [])) classes)) (due_alike (10 ∷ 10 ∷ 1 ∷ 2 ∷ 1 ∷ []) minimum_of minimum_at q waiting h)
    ∙ ap (λ r. or_else (find (is_due minimum_of q) classes) r) (due_alike (10 ∷ 10 ∷ 3 ∷ 10 ∷ 3 ∷ []) maximum_of maximum_at q waiting h)

-- ---- the first of a class

filter_both : {X : Type 0} (p q : X → Bool) (xs : List X) → filter (λ x. p x && q x) xs ≡ filter q (filter p xs)
filter_both p q [] = refl
filter_both p q (x ∷ xs) = go (p x) (q x) refl (filter_both p q xs)
  where
    go : (a b : Bool) → q x ≡ b → filter (λ x. p x && q x) xs ≡ filter q (filter p xs) →
        cond (a && b) (x ∷ filter (λ x. p x && q x) xs) (filter (λ x. p x && q x) xs) ≡ filter q (cond a (x ∷ filter p xs) (filter p xs))
    go true true e h = ap (λ r. x ∷ r) h ∙ sym (ap (λ b. cond b (x ∷ filter q (filter p xs)) (filter q (filter p xs))) e)
    go true false e h = h ∙ sym (ap (λ b. cond b (x ∷ filter q (filter p xs)) (filter q (filter p xs))) e)
    go false b e h = h

values-filter_rank : (t : ℕ → Bool) (r : Op → ℕ) (fs : List (Spot × Op)) → AreRanked r fs → values_of (filter (λ f. t f.0.rank) fs) ≡ filter (λ o. t (r o)) (values_of fs)
values-filter_rank t r [] h = refl
values-filter_rank t r (f ∷ fs) h = ap (λ n. values_of (cond (t n) (f ∷ filter (λ f. t f.0.rank) fs) (filter (λ f. t f.0.rank) fs))) h.0 ∙ go (t (r f.1)) (values-filter_rank t r fs h.1)
  where
    go : (b : Bool) → values_of (filter (λ f. t f.0.rank) fs) ≡ filter (λ o. t (r o)) (values_of fs) →
        values_of (cond b (f ∷ filter (λ f. t f.0.rank) fs) (filter (λ f. t f.0.rank) fs)) ≡ cond b (f.1 ∷ filter (λ o. t (r o)) (values_of fs)) (filter (λ o. t (r o)) (values_of fs))
    go true k = ap (λ x. f.1 ∷ x) k
    go false k = k

first-values : (fs : List (Spot × Op)) → option_map (λ (f : Spot × Op). f.1) (slice_get fs 0) ≡ slice_get (values_of fs) 0
first-values [] = refl
first-values (f ∷ fs) = refl

first-filter : (p : Op → Bool) (os : List Op) → slice_get (filter p os) 0 ≡ find p os
first-filter p [] = refl
first-filter p (o ∷ os) = go (p o) (first-filter p os)
  where
    go : (b : Bool) → slice_get (filter p os) 0 ≡ find p os → slice_get (cond b (o ∷ filter p os) (filter p os)) 0 ≡ cond b (Some o) (find p os)
    go true h = refl
    go false h = h

first_on_is : (c : Prio) (rank : ℕ) (es : List (ℕ × Op)) (fs : List (Spot × Op)) → IsIndexed es fs →
    option_map (λ (f : Spot × Op). f.1) (first_on (class_number c) rank fs) ≡ find (λ o. nat_le rank (turn_in (is_sync c) o)) (in_turn c (values_of es))
first_on_is c rank es fs h =
    first-values (filter (is_on_shelf (class_number c) rank) fs)
    ∙ ap (λ (gs : List (Spot × Op)). slice_get (values_of gs) 0) (filter_both (λ f. f.0.shelf == class_number c) (λ f. nat_le rank f.0.rank) fs
    ∙ ap (filter (λ f. nat_le rank f.0.rank)) (shelf_is (class_number c) (is_in_class c) (turn_in (is_sync c)) (class_is_shelf c) es fs h.timed h.sorted h.shelved))
    ∙ ap (λ (os : List Op). slice_get os 0) (values-filter_rank (nat_le rank) (turn_in (is_sync c)) _ (ranked-arranged_on (class_number c) (is_in_class c) (turn_in (is_sync c)) es)
    ∙ ap (filter (λ o. nat_le rank (turn_in (is_sync c) o))) (values-arranged_on (class_number c) (is_in_class c) (turn_in (is_sync c)) es))
    ∙ first-filter (λ o. nat_le rank (turn_in (is_sync c) o)) (in_turn c (values_of es))

map-or_else : (a b : Option (Spot × Op)) → option_map (λ (f : Spot × Op). f.1) (or_else a b) ≡ or_else (option_map (λ (f : Spot × Op). f.1) a) (option_map (λ (f : Spot × Op). f.1) b)
map-or_else None b = refl
map-or_else (Some a) b = refl

le_zero : (n : ℕ) → nat_le 0 n ≡ true
le_zero n = grind (arith, nat_tests)

start_alike : (sync : Bool) (last : ℕ) (o : Op) → nat_le (start_of sync last) (turn_in sync o) ≡ (sync || nat_le last o.at)
start_alike true last o = refl
start_alike false last o = refl

pub first_served_is : (c : Prio) (last : ℕ) (es : List (ℕ × Op)) (fs : List (Spot × Op)) → IsIndexed es fs →
    option_map (λ (f : Spot × Op). f.1) (first_served c last fs) ≡ first_in c last (values_of es)
first_served_is c last es fs h =
    map-or_else (first_on (class_number c) (start_of (is_sync c) last) fs) (first_on (class_number c) 0 fs)
    ∙ ap (λ r. or_else r (option_map (λ (f : Spot × Op). f.1) (first_on (class_number c) 0 fs)))
    (first_on_is c (start_of (is_sync c) last) es fs h ∙ find_alike _ (λ o. is_sync c || nat_le last o.at) (start_alike (is_sync c) last) (in_turn c (values_of es)))
    ∙ ap (λ r. or_else (find (λ o. is_sync c || nat_le last o.at) (in_turn c (values_of es))) r)
    (first_on_is c 0 es fs h ∙ find_alike _ (λ o. true) (λ o. le_zero (turn_in (is_sync c) o)) (in_turn c (values_of es)))

-- ---- one of those that are arranged

pub any-put : (p : Op → Bool) (r : Op → ℕ) (o : Op) (os : List Op) → list_any p (put_before r o os) ≡ (p o || list_any p os)
any-put p r o [] = refl
any-put p r o (x ∷ xs) = go (nat_le (r o) (r x)) (any-put p r o xs)
  where
    swap : (a b c : Bool) → (a || (b || c)) ≡ (b || (a || c))
    swap true true c = refl
    swap true false c = refl
    swap false true c = refl
    swap false false c = refl

    go : (b : Bool) → list_any p (put_before r o xs) ≡ (p o || list_any p xs) → list_any p (cond b (o ∷ x ∷ xs) (x ∷ put_before r o xs)) ≡ (p o || (p x || list_any p xs))
    go true h = refl
    go false h = ap (λ b. p x || b) h ∙ swap (p x) (p o) (list_any p xs)

pub any-arranged_by : (p : Op → Bool) (r : Op → ℕ) (os : List Op) → list_any p (arranged r os) ≡ list_any p os
any-arranged_by p r [] = refl
any-arranged_by p r (o ∷ os) = any-put p r o (arranged r os) ∙ ap (λ b. p o || b) (any-arranged_by p r os)

-- ---- what stands on the shelves stands at its time

abbrev AreFound : List (Spot × Op) → List (Spot × Op) → Type 0
AreFound fs [] = Unit {0}
AreFound fs (g ∷ gs) = (at_spot fs g.0 ≡ Some g.1) × AreFound fs gs

found_later : (f : Spot × Op) (fs gs : List (Spot × Op)) → AllAfter f.0 (keys_of gs) → AreFound fs gs → AreFound (f ∷ fs) gs
found_later f fs [] after h = tt
found_later f fs (g ∷ gs) after h =
    let over : spot_cmp g.0 f.0 ≡ Greater = spot_total.antisymm g.0 f.0 ∙ ap ordering_reverse after.0 in
    (ap (λ o. cond (is_eq o) (Some f.1) (at_spot fs g.0)) over ∙ h.0, found_later f fs gs after.1 h.1)

found_all : (fs : List (Spot × Op)) → IsStrictlySortedBy spot_cmp (keys_of fs) → AreFound fs fs
unfolding IsStrictlySortedBy
found_all [] h = tt
found_all (f ∷ fs) h = (ap (λ b. cond b (Some f.1) (at_spot fs f.0)) (self_equal f.0), found_later f fs fs h.0 (found_all fs h.1))

kept_some : (q : Spot) (o : Option Op) (p : Op) → kept_at q o ≡ Some p → o ≡ Some p
kept_some q None p e = e
kept_some q (Some o) p e = go (is_sought_at q.time o q) e
  where
    none_some : None ≡ Some p → ⊥
    none_some e = cc

    go : (b : Bool) → cond b (Some o) None ≡ Some p → Some o ≡ Some p
    go true e = e
    go false e = absurd (none_some e)

there_found : (es : List (ℕ × Op)) (fs gs : List (Spot × Op)) → IsShelved es fs → AreFound fs gs → AreThere es gs
there_found es fs [] shelved h = tt
there_found es fs (g ∷ gs) shelved h = (kept_some g.0 (at_time es g.0.time) g.1 (sym (shelved g.0) ∙ h.0), there_found es fs gs shelved h.1)

pub there_all : (es : List (ℕ × Op)) (fs : List (Spot × Op)) → IsIndexed es fs → AreThere es fs
there_all es fs h = there_found es fs fs h.shelved (found_all fs h.sorted)

pub there-filter : (es : List (ℕ × Op)) (p : Spot × Op → Bool) (fs : List (Spot × Op)) → AreThere es fs → AreThere es (filter p fs)
there-filter es p [] h = tt
there-filter es p (f ∷ fs) h = go (p f) (there-filter es p fs h.1)
  where
    go : (b : Bool) → AreThere es (filter p fs) → AreThere es (cond b (f ∷ filter p fs) (filter p fs))
    go true k = (h.0, k)
    go false k = k

there_first : (es : List (ℕ × Op)) (gs : List (Spot × Op)) (f : Spot × Op) → AreThere es gs → slice_get gs 0 ≡ Some f → at_time es f.0.time ≡ Some f.1
there_first es [] f h e = absurd (none_some f e)
  where
    none_some : (f : Spot × Op) → None ≡ Some f → ⊥
    none_some f e = cc
there_first es (g ∷ gs) f h e = subst (λ (x : Spot × Op). at_time es x.0.time ≡ Some x.1) (some_same g f e) h.0
  where
    some_same : (x y : Spot × Op) → Some x ≡ Some y → x ≡ y
    some_same x y e = cc

pub there_served : (c : Prio) (last : ℕ) (es : List (ℕ × Op)) (fs : List (Spot × Op)) (f : Spot × Op) → IsIndexed es fs → first_served c last fs ≡ Some f → at_time es f.0.time ≡ Some f.1
there_served c last es fs f h e = go (first_on (class_number c) (start_of (is_sync c) last) fs) refl e
  where
    go : (o : Option (Spot × Op)) → first_on (class_number c) (start_of (is_sync c) last) fs ≡ o → or_else o (first_on (class_number c) 0 fs) ≡ Some f → at_time es f.0.time ≡ Some f.1
    go None is e = there_first es _ f (there-filter es (is_on_shelf (class_number c) 0) fs (there_all es fs h)) e
    go (Some g) is e = there_first es _ f (there-filter es (is_on_shelf (class_number c) (start_of (is_sync c) last)) fs (there_all es fs h)) (is ∙ e)

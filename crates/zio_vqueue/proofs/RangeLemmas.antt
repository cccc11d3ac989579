-- The parts of the spots that ranges hold.
use Rattle.std.proofs.Common.{◌≡◌, ℕ, ◌+◌, List, [], ◌∷◌, Bool, true, false, ◌&&◌, ◌||◌, not, Some, None, refl, ◌∙◌, arith, ◌==◌, nat_le, nat_lt, filter, slice_get}
use Rattle.std.proofs.lemmas.Bool.Decides.{nat_tests}
use Rattle.std.specs.Ordering.{nat_cmp, ordering_then, is_eq, is_lt, is_le}
use Rattle.std.specs.declared.cmp.Ordering.{Ordering}
use Rattle.std.specs.declared.cmp.Ordering.TheVariants.{Less, Equal, Greater}
use Rattle.std.specs.declared.ops.Bound.TheVariants.{Included, Excluded}
use Rattle.std.specs.BTreeMap.Range.{entries_between, range_contains}
use Rattle.zio_vqueue.specs.declared.op.Op.{Op}
use Rattle.zio_vqueue.specs.declared.spots.Spot.{Spot}
use Rattle.zio_vqueue.specs.Spots.{above_spot, below_spot, is_on_shelf, spot_cmp}

-- a test that answers as another passes the same
pub filter_alike : {X : Type 0} (p q : X → Bool) → ((x : X) → p x ≡ q x) → (xs : List X) → filter p xs ≡ filter q xs
filter_alike p q h [] = refl
filter_alike p q h (x ∷ xs) = rw (h x, filter_alike p q h xs) refl

is_le-then : (x y : Ordering) → is_le (ordering_then x y) ≡ (is_lt x || (is_eq x && is_le y))
is_le-then Less y = refl
is_le-then Equal y = refl
is_le-then Greater y = refl

is_lt-then : (x y : Ordering) → is_lt (ordering_then x y) ≡ (is_lt x || (is_eq x && is_lt y))
is_lt-then Less y = refl
is_lt-then Equal y = refl
is_lt-then Greater y = refl

is_le-nat : (a b : ℕ) → is_le (nat_cmp a b) ≡ nat_le a b
is_le-nat a b = grind (arith, nat_tests)

is_lt-nat : (a b : ℕ) → is_lt (nat_cmp a b) ≡ nat_lt a b
is_lt-nat a b = grind (arith, nat_tests)

is_eq-nat : (a b : ℕ) → is_eq (nat_cmp a b) ≡ (a == b)
is_eq-nat a b = grind (arith, nat_tests)

-- a spot that is at another or after it, or after it, shelf by shelf
le_spot : (a b : Spot) → is_le (spot_cmp a b) ≡ (nat_lt a.shelf b.shelf || (a.shelf == b.shelf && (nat_lt a.rank b.rank || (a.rank == b.rank && nat_le a.time b.time))))
le_spot a b =
    is_le-then (nat_cmp a.shelf b.shelf) (ordering_then (nat_cmp a.rank b.rank) (nat_cmp a.time b.time))
    ∙ rw (is_le-then (nat_cmp a.rank b.rank) (nat_cmp a.time b.time), is_lt-nat a.shelf b.shelf, is_eq-nat a.shelf b.shelf, is_lt-nat a.rank b.rank, is_eq-nat a.rank b.rank, is_le-nat a.time b.time) refl

rank_or_more : (r x t : ℕ) → (nat_lt r x || (r == x && nat_le 0 t)) ≡ nat_le r x
rank_or_more r x t = grind (arith, nat_tests)

on_shelf : (s x : ℕ) (r t : Bool) → t ≡ true → ((nat_lt s x || (s == x && r)) && not (nat_lt (s + 1) x || (s + 1 == x && t))) ≡ (x == s && r)
on_shelf s x true t e = grind (arith, nat_tests)
on_shelf s x false t e = grind (arith, nat_tests)

any_rank : (x t : ℕ) → (nat_lt 0 x || (0 == x && nat_le 0 t)) ≡ true
any_rank x t = grind (arith, nat_tests)

from_rank : (shelf rank : ℕ) (q : Spot) →
    range_contains spot_cmp (Included (record { shelf = shelf; rank = rank; time = 0 })) (Excluded (record { shelf = shelf + 1; rank = 0; time = 0 })) q
    ≡ (q.shelf == shelf && nat_le rank q.rank)
from_rank shelf rank q =
    rw (le_spot (record { shelf = shelf; rank = rank; time = 0 }) q, le_spot (record { shelf = shelf + 1; rank = 0; time = 0 }) q, rank_or_more rank q.rank q.time)
    (on_shelf shelf q.shelf (nat_le rank q.rank) _ (any_rank q.rank q.time))

pub shelf_range : (shelf rank : ℕ) (fs : List (Spot × Op)) →
    entries_between spot_cmp (Included (record { shelf = shelf; rank = rank; time = 0 })) (Excluded (record { shelf = shelf + 1; rank = 0; time = 0 })) fs
    ≡ filter (is_on_shelf shelf rank) fs
shelf_range shelf rank fs = filter_alike _ _ (λ f. from_rank shelf rank f.0) fs

below_shelf : (f x : ℕ) (r t u : Bool) → t ≡ true → u ≡ not r → ((nat_lt f x || (f == x && t)) && not (nat_lt f x || (f == x && u))) ≡ (x == f && r)
below_shelf f x true t u e g = grind (arith, nat_tests)
below_shelf f x false t u e g = grind (arith, nat_tests)

lt_spot : (a b : Spot) → is_lt (spot_cmp a b) ≡ (nat_lt a.shelf b.shelf || (a.shelf == b.shelf && (nat_lt a.rank b.rank || (a.rank == b.rank && nat_lt a.time b.time))))
lt_spot a b =
    is_lt-then (nat_cmp a.shelf b.shelf) (ordering_then (nat_cmp a.rank b.rank) (nat_cmp a.time b.time))
    ∙ rw (is_lt-then (nat_cmp a.rank b.rank) (nat_cmp a.time b.time), is_lt-nat a.shelf b.shelf, is_eq-nat a.shelf b.shelf, is_lt-nat a.rank b.rank, is_eq-nat a.rank b.rank, is_lt-nat a.time b.time) refl

other_way : (a x b t : ℕ) → (nat_lt a x || (a == x && nat_le b t)) ≡ not (nat_lt x a || (x == a && nat_lt t b))
other_way a x b t = grind (arith, nat_tests)

same_shelf : (x f : ℕ) (r : Bool) → (x == f && r) ≡ (x == f && (nat_lt x f || (x == f && r)))
same_shelf x f true = grind (arith, nat_tests)
same_shelf x f false = grind (arith, nat_tests)

same_shelf_above : (x f : ℕ) (r : Bool) → (x == f && r) ≡ (x == f && (nat_lt f x || (f == x && r)))
same_shelf_above x f true = grind (arith, nat_tests)
same_shelf_above x f false = grind (arith, nat_tests)

below_from : (from q : Spot) →
    range_contains spot_cmp (Included (record { shelf = from.shelf; rank = 0; time = 0 })) (Excluded from) q
    ≡ (q.shelf == from.shelf && is_lt (spot_cmp q from))
below_from from q =
    rw (le_spot (record { shelf = from.shelf; rank = 0; time = 0 }) q, le_spot from q, lt_spot q from)
    (below_shelf from.shelf q.shelf _ _ _ (any_rank q.rank q.time) (other_way from.rank q.rank from.time q.time)
    ∙ same_shelf q.shelf from.shelf _)

above_from : (from q : Spot) →
    range_contains spot_cmp (Excluded from) (Excluded (record { shelf = from.shelf + 1; rank = 0; time = 0 })) q
    ≡ (q.shelf == from.shelf && is_lt (spot_cmp from q))
above_from from q =
    rw (lt_spot from q, le_spot (record { shelf = from.shelf + 1; rank = 0; time = 0 }) q)
    (on_shelf from.shelf q.shelf _ _ (any_rank q.rank q.time) ∙ same_shelf_above q.shelf from.shelf _)

pub below_range : (from : Spot) (fs : List (Spot × Op)) →
    entries_between spot_cmp (Included (record { shelf = from.shelf; rank = 0; time = 0 })) (Excluded from) fs ≡ below_spot from fs
below_range from fs = filter_alike _ _ (λ f. below_from from f.0) fs

pub above_range : (from : Spot) (fs : List (Spot × Op)) →
    entries_between spot_cmp (Excluded from) (Excluded (record { shelf = from.shelf + 1; rank = 0; time = 0 })) fs ≡ above_spot from fs
above_range from fs = filter_alike _ _ (λ f. above_from from f.0) fs

pub first_of_rest : {X : Type 0} (x : X) (xs ys : List X) → xs ≡ x ∷ ys → slice_get xs 0 ≡ Some x
first_of_rest x xs ys e = rw e refl

pub none_of_rest : {X : Type 0} (xs : List X) → xs ≡ [] → slice_get xs 0 ≡ None
none_of_rest xs e = rw e refl

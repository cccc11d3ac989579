-- What entries take is open in any order: free beside the places that were in use, and no two of them meet.
use Rattle.std.proofs.Common.{◌≡◌, ℕ, ◌+◌, ◌<◌, ◌≤◌, max, min, List, [], ◌∷◌, ◌++◌, refl, ap, ◌∙◌, arith, Option, Some, None}
use Rattle.std.specs.Prelude.{Bool, true, false, ◌==◌, cond, not, nat_le, nat_lt, slice_get, sum_by, Contains, IsPermutation, IsTrue}
use Rattle.std.specs.List.{AllByRecursion, list_all}
use Rattle.std.proofs.lemmas.Bool.{and_from, and_parts, eq-eqb, false≢true, lt-ltb, ltb-true}
use Rattle.std.proofs.lemmas.List.Elements.{All-from_recursion, Contains-append_left, recursion_from_All}
use Rattle.std.proofs.lemmas.List.Sums.{sum_by-cons}
use Rattle.std.proofs.lemmas.List.Sorted.{All-permutation, Contains-permutation, IsPermutation-sym, sum_by-IsPermutation}
use Rattle.zio_types.specs.declared.place.Place.{Place}
use Rattle.zio_types.specs.declared.place.TopSize.{TopSize}
use Rattle.zio_types.specs.Choices.{Choice, is_refused, taken_by}
use Rattle.zio_types.specs.Places.{SamePlaces, are_apart, are_open, end_of, is_below, is_free, meets}
use Rattle.zio_cksum.proofs.AllLemmas.{all_append, all_contained, all_weaker}
use Rattle.zio_places.proofs.PlaceLemmas.{meets-symmetric}
use Rattle.zio_blocks.specs.Choosers.{IsFound, IsFoundEntry, taken_by_all}
use Rattle.zio_cksum.proofs.PlaceSets.{all_pass, pass_all}

-- ---- places have sectors

abbrev HasSome : Place → Type 0
HasSome p = 0 < p.sectors

some_below : (p : Place) (o : Option TopSize) → IsTrue (is_below p o) → HasSome p
some_below p None h = absurd (false≢true h)
some_below p (Some top) h = ltb-true 0 p.sectors (and_parts (nat_lt 0 p.sectors) (nat_le (end_of p) top.sectors) h).0

some_if : (t : Bool) (places : List Place) → AllByRecursion HasSome places → AllByRecursion HasSome (cond t [] places)
some_if true places h = tt
some_if false places h = h

taken_some : (tops : List TopSize) (es : List Choice) → AllByRecursion (IsFoundEntry tops) es → AllByRecursion HasSome (taken_by_all es)
taken_some tops [] found = tt
taken_some tops (e ∷ es) found =
    all_append HasSome (taken_by e) (taken_by_all es)
    (some_if (is_refused e) e.places (all_weaker (IsFound tops e.asked.size) HasSome e.places (λ p h. some_below p (slice_get tops p.top) h.inside) found.0.each))
    (taken_some tops es found.1)

-- ---- places in another order

-- how many of the places meet this one
abbrev bit : Bool → ℕ
bit true = 1
bit false = 0

abbrev met : Place → List Place → ℕ
met p xs = sum_by (λ (q : Place). bit (meets p q)) xs

met_more : (p x : Place) (xs : List Place) → met p (x ∷ xs) ≡ bit (meets p x) + met p xs
met_more p x xs = sum_by-cons (λ (q : Place). bit (meets p q)) x xs

-- a place that has sectors meets itself and no other
abbrev MeetsOne : List Place → Place → Type 0
MeetsOne xs p = met p xs ≤ 1

bit_free : (t : Bool) → not t ≡ true → bit t ≡ 0
bit_free true h = absurd (false≢true h)
bit_free false h = refl

free_met : (xs : List Place) (p : Place) → is_free xs p ≡ true → met p xs ≡ 0
free_met [] p h = refl
free_met (x ∷ xs) p h =
    let parts = and_parts (not (meets p x)) (is_free xs p) h in
    omega (arith, met_more p x xs, bit_free (meets p x) parts.0, free_met xs p parts.1)

free_bit : (t : Bool) → bit t ≡ 0 → not t ≡ true
free_bit true h = absurd (omega arith)
free_bit false h = refl

met_free : (xs : List Place) (p : Place) → met p xs ≡ 0 → is_free xs p ≡ true
met_free [] p h = refl
met_free (x ∷ xs) p h =
    and_from (not (meets p x)) (is_free xs p) (free_bit (meets p x) (omega (arith, h, met_more p x xs))) (met_free xs p (omega (arith, h, met_more p x xs)))

bit_most : (t : Bool) → bit t ≤ 1
bit_most true = omega arith
bit_most false = omega arith

more_met : (x : Place) (xs ys : List Place) → is_free ys x ≡ true → AllByRecursion (MeetsOne xs) ys → AllByRecursion (MeetsOne (x ∷ xs)) ys
more_met x xs [] h k = tt
more_met x xs (y ∷ ys) h k =
    let parts = and_parts (not (meets x y)) (is_free ys x) h in
    let apart : bit (meets y x) ≡ 0 = ap bit (meets-symmetric y x) ∙ bit_free (meets x y) parts.0 in
    (omega (arith, met_more y x xs, apart, k.0), more_met x xs ys parts.1 k.1)

apart_met : (xs : List Place) → are_apart xs ≡ true → AllByRecursion (MeetsOne xs) xs
apart_met [] h = tt
apart_met (x ∷ xs) h =
    let parts = and_parts (is_free xs x) (are_apart xs) h in
    (omega (arith, met_more x x xs, bit_most (meets x x), free_met xs x parts.0), more_met x xs xs parts.0 (apart_met xs parts.1))

-- a place that has sectors meets itself
meets_itself : (p : Place) → HasSome p → bit (meets p p) ≡ 1
meets_itself p h =
    ap bit (and_from (p.top == p.top) (nat_lt (max p.sector p.sector) (min (end_of p) (end_of p))) (eq-eqb p.top p.top refl)
    (lt-ltb (max p.sector p.sector) (min (end_of p) (end_of p)) (omega (arith, h))))

met_apart : (xs : List Place) → AllByRecursion HasSome xs → AllByRecursion (MeetsOne xs) xs → are_apart xs ≡ true
met_apart [] some h = refl
met_apart (x ∷ xs) some h =
    and_from (is_free xs x) (are_apart xs)
    (met_free xs x (omega (arith, met_more x x xs, meets_itself x some.0, h.0)))
    (met_apart xs some.1 (all_weaker (MeetsOne (x ∷ xs)) (MeetsOne xs) xs (λ p k. omega (arith, met_more p x xs, k)) h.1))

all_moved : (P : Place → Type 0) (xs ys : List Place) → IsPermutation xs ys → AllByRecursion P xs → AllByRecursion P ys
all_moved P xs ys moved h = recursion_from_All P ys (All-permutation P xs ys moved (All-from_recursion P xs h))

open_moved : (used xs ys : List Place) → IsPermutation xs ys → AllByRecursion HasSome xs → are_open used xs ≡ true → are_open used ys ≡ true
open_moved used xs ys moved some h =
    let parts = and_parts (list_all (is_free used) xs) (are_apart xs) h in
    let one : AllByRecursion (MeetsOne ys) xs =
    all_weaker (MeetsOne xs) (MeetsOne ys) xs (λ p k. omega (arith, k, sum_by-IsPermutation (λ (q : Place). bit (meets p q)) xs ys moved)) (apart_met xs parts.1) in
    and_from (list_all (is_free used) ys) (are_apart ys)
    (pass_all (is_free used) ys (all_moved (λ (p : Place). IsTrue (is_free used p)) xs ys moved (all_pass (is_free used) xs parts.0)))
    (met_apart ys (all_moved HasSome xs ys moved some) (all_moved (MeetsOne ys) xs ys moved one))

-- places that entries took which were found are open in any order
pub found_open : (tops : List TopSize) (used : List Place) (es : List Choice) (places : List Place) → AllByRecursion (IsFoundEntry tops) es → are_open used (taken_by_all es) ≡ true → IsPermutation places (taken_by_all es)
    → are_open used places ≡ true
found_open tops used es places found opened moved = open_moved used (taken_by_all es) places (IsPermutation-sym places (taken_by_all es) moved) (taken_some tops es found) opened

-- and they are live where what was taken is
pub taken_live : (live taken others places : List Place) → SamePlaces live (taken ++ others) → IsPermutation places taken → AllByRecursion (Contains live) places
taken_live live taken others places same moved =
    all_weaker (Contains places) (Contains live) places
    (λ p h. (same p).1 (Contains-append_left taken others p (Contains-permutation places taken p moved h))) (all_contained places)

-- Places that are apart, by how often each sector is covered, and places that are free.
use Rattle.std.proofs.Common.{◌≡◌, ℕ, ◌+◌, ◌<◌, ◌≤◌, List, [], ◌∷◌, Bool, true, false, refl, sym, ap, ◌∙◌, subst, arith}
use Rattle.std.specs.Prelude.{Contains, IsPermutation, IsTrue, nat_le, nat_lt, not, ◌==◌, ◌&&◌, slice_get, Option, Some, None, sum_by}
use Rattle.std.specs.List.{AllByRecursion, list_all}
use Rattle.std.proofs.lemmas.Bool.{and_from, and_parts, eqb-true, false≢true, ltb-true}
use Rattle.std.proofs.lemmas.List.Sorted.{sum_by-IsPermutation}
use Rattle.std.proofs.lemmas.List.Sums.{sum_by-cons}
use Rattle.zio_types.specs.declared.place.Place.{Place}
use Rattle.zio_types.specs.declared.place.TopSize.{TopSize}
use Rattle.zio_types.specs.Places.{are_apart, are_open, end_of, is_below, is_free, is_inside, meets}
use Rattle.zio_cksum.proofs.AllLemmas.{all_contained, all_contains, all_weaker}
use Rattle.zio_places.specs.Tables.{cover_count, covers, one_if, total}
use Rattle.zio_places.proofs.PlaceLemmas.{counts-from_is_free, covers-from, is_free-from_counts, meets-from}
use Rattle.zio_cksum.proofs.PlaceSets.{all_pass, pass_all}

-- ---- apart

-- where no sector is covered twice, no two places meet
pub apart_counted : (xs : List Place) → ((top sector : ℕ) → cover_count xs top sector ≤ 1) → are_apart xs ≡ true
apart_counted [] once = refl
apart_counted (x ∷ xs) once =
    and_from (is_free xs x) (are_apart xs)
    (is_free-from_counts xs x (λ sector c. (let all = once x.top sector in let one : one_if (covers x x.top sector) ≡ 1 = ap one_if c in omega arith)))
    (apart_counted xs (λ top sector. (let all = once top sector in omega arith)))

pub counted_apart : (xs : List Place) → are_apart xs ≡ true → (top sector : ℕ) → cover_count xs top sector ≤ 1
counted_apart [] h top sector = omega arith
counted_apart (x ∷ xs) h top sector =
    let parts = and_parts (is_free xs x) (are_apart xs) h in
    one (covers x top sector) refl parts.0 (counted_apart xs parts.1 top sector)
  where
    one : (b : Bool) → covers x top sector ≡ b → is_free xs x ≡ true → cover_count xs top sector ≤ 1 → one_if b + cover_count xs top sector ≤ 1
    one false c free rest = omega arith
    one true c free rest =
        let on = eqb-true x.top top (and_parts (x.top == top) (nat_le x.sector sector && nat_lt sector (end_of x)) c).0 in
        let none : cover_count xs x.top sector ≡ 0 = counts-from_is_free xs x sector free (subst (λ t. covers x t sector ≡ true) (sym on) c) in
        let same : cover_count xs top sector ≡ 0 = subst (λ t. cover_count xs t sector ≡ 0) on none in
        omega arith

-- fewer places are apart too
pub apart_fewer : (xs ys : List Place) → ((f : Place → ℕ) → total f xs ≤ total f ys) → are_apart ys ≡ true → are_apart xs ≡ true
apart_fewer xs ys fewer h =
    apart_counted xs (λ top sector. (let a = fewer (λ (p : Place). one_if (covers p top sector)) in let b = counted_apart ys h top sector in omega arith))

total_is : (f : Place → ℕ) (xs : List Place) → total f xs ≡ sum_by f xs
total_is f [] = refl
total_is f (x ∷ xs) = ap (λ n. f x + n) (total_is f xs) ∙ sym (sum_by-cons f x xs)

pub total_moved : (f : Place → ℕ) (xs ys : List Place) → IsPermutation xs ys → total f ys ≡ total f xs
total_moved f xs ys moved = total_is f ys ∙ sum_by-IsPermutation f xs ys moved ∙ sym (total_is f xs)

-- ---- open

pub open_sets : (used now xs ys : List Place) → ((p : Place) → Contains now p → Contains used p) → ((p : Place) → Contains ys p → Contains xs p) → ((f : Place → ℕ) → total f ys ≤ total f xs)
    → are_open used xs ≡ true → are_open now ys ≡ true
open_sets used now xs ys among within fewer h =
    let parts = and_parts (list_all (is_free used) xs) (are_apart xs) h in
    let each = all_pass (is_free used) xs parts.0 in
    and_from (list_all (is_free now) ys) (are_apart ys)
    (pass_all (is_free now) ys (all_sub xs ys within (λ p. IsTrue (is_free now p)) (all_weaker (λ p. IsTrue (is_free used p)) (λ p. IsTrue (is_free now p)) xs (λ p free. free_fewer used now p among free) each)))
    (apart_fewer ys xs fewer parts.1)
  where
    all_sub : (ps qs : List Place) → ((p : Place) → Contains qs p → Contains ps p) → (P : Place → Type 0) → AllByRecursion P ps → AllByRecursion P qs
    all_sub ps qs sub P k = all_weaker (Contains qs) P qs (λ p c. all_contains P ps p k (sub p c)) (all_contained qs)

    free_fewer : (ps qs : List Place) (p : Place) → ((q : Place) → Contains qs q → Contains ps q) → is_free ps p ≡ true → is_free qs p ≡ true
    free_fewer ps qs p sub free = pass_all (λ q. not (meets p q)) qs (all_sub ps qs sub (λ q. IsTrue (not (meets p q))) (all_pass (λ q. not (meets p q)) ps free))

-- a place that has sectors isn't free beside itself
pub not_itself : (used : List Place) (p : Place) → 0 < p.sectors → Contains used p → is_free used p ≡ true → ⊥
not_itself used p some there free =
    let not_met : not (meets p p) ≡ true = all_contains (λ q. IsTrue (not (meets p q))) used p (all_pass (λ q. not (meets p q)) used free) there in
    let whole : covers p p.top p.sector ≡ true = covers-from p p.top p.sector refl (omega arith) (omega arith) in
    let met : meets p p ≡ true = meets-from p p p.sector whole whole in
    false≢true (ap not (sym met) ∙ not_met)

-- ---- inside

some_in : (p : Place) (o : Option TopSize) → is_below p o ≡ true → 0 < p.sectors
some_in p None h = absurd (false≢true h)
some_in p (Some top) h = ltb-true 0 p.sectors (and_parts (nat_lt 0 p.sectors) (nat_le (end_of p) top.sectors) h).0

pub inside_some : (tops : List TopSize) (p : Place) → is_inside tops p ≡ true → 0 < p.sectors
inside_some tops p h = some_in p (slice_get tops p.top) h

-- Places that are apart: parts of them, and some of them, are apart too.
use Rattle.std.proofs.Common.{◌≡◌, ℕ, ◌<◌, List, [], ◌∷◌, ◌++◌, min, max, Bool, true, false, ◌&&◌, not, Option, Some, None, eqb, eq-eqb, refl, sym, ap, ◌∙◌, subst, inl, inr, ◌⊎◌, arith}
use Rattle.std.specs.Prelude.{nat_lt, nat_le}
use Rattle.std.proofs.lemmas.Bool.{and_from, and_parts, lt-ltb, ltb-true}
use Rattle.std.specs.List.{list_all}
use Rattle.zio_types.specs.declared.place.Place.{Place}
use Rattle.zio_types.specs.declared.place.TopSize.{TopSize}
use Rattle.zio_types.specs.Places.{are_apart, end_of, is_below, is_free, meets}
use Rattle.zio_course.proofs.PlantLemmas.{eqb_back}
use Rattle.zio_course.proofs.SortLemmas.{IsOneOf, one_right}

-- ---- two places

pub below_some : (p : Place) (top : Option TopSize) → is_below p top ≡ true → nat_lt 0 p.sectors ≡ true
below_some p None e = absurd (let f = e in cc)
below_some p (Some top) e = (and_parts (nat_lt 0 p.sectors) (nat_le (end_of p) top.sectors) e).0

max_self : (n : ℕ) → max n n ≡ n
max_self n = omega arith

min_self : (n : ℕ) → min n n ≡ n
min_self n = omega arith

-- a place with sectors meets itself
pub meets_self : (p : Place) → nat_lt 0 p.sectors ≡ true → meets p p ≡ true
meets_self p some =
    let more : 0 < p.sectors = ltb-true 0 p.sectors some in
    let lower : max p.sector p.sector < min (end_of p) (end_of p) =
    subst (λ (k : ℕ). k < min (end_of p) (end_of p)) (sym (max_self p.sector)) (subst (λ (k : ℕ). p.sector < k) (sym (min_self (end_of p))) (omega arith)) in
    ap (λ (b : Bool). b && nat_lt (max p.sector p.sector) (min (end_of p) (end_of p))) (eq-eqb p.top p.top refl) ∙ lt-ltb (max p.sector p.sector) (min (end_of p) (end_of p)) lower

max_swap : (a b : ℕ) → max a b ≡ max b a
max_swap a b = omega arith

min_swap : (a b : ℕ) → min a b ≡ min b a
min_swap a b = omega arith

pub meets_swap : (p q : Place) → meets p q ≡ meets q p
meets_swap p q =
    ap (λ (b : Bool). b && nat_lt (max p.sector q.sector) (min (end_of p) (end_of q))) (eqb_back p.top q.top)
    ∙ (ap (λ (n : ℕ). eqb q.top p.top && nat_lt n (min (end_of p) (end_of q))) (max_swap p.sector q.sector)
    ∙ ap (λ (n : ℕ). eqb q.top p.top && nat_lt (max q.sector p.sector) n) (min_swap (end_of p) (end_of q)))

-- ---- a place and others

pub one_passing : {X : Type 0} (test : X → Bool) (xs : List X) (x : X) → list_all test xs ≡ true → IsOneOf x xs → test x ≡ true
one_passing test [] x all at = absurd at
one_passing test (z ∷ xs) x all (inl same) = ap test (sym same) ∙ (and_parts (test z) (list_all test xs) all).0
one_passing test (z ∷ xs) x all (inr at) = one_passing test xs x (and_parts (test z) (list_all test xs) all).1 at

not_true : (b : Bool) → not b ≡ true → b ≡ false
not_true true e = absurd (let f = e in cc)
not_true false e = refl

-- a free place meets none of those
pub free_of : (used : List Place) (p q : Place) → is_free used p ≡ true → IsOneOf q used → meets p q ≡ false
free_of used p q free at = not_true (meets p q) (one_passing (λ (z : Place). not (meets p z)) used q free at)

free_front : (xs ys : List Place) (p : Place) → is_free (xs ++ ys) p ≡ true → is_free xs p ≡ true
free_front [] ys p free = refl
free_front (x ∷ xs) ys p free =
    let parts = and_parts (not (meets p x)) (is_free (xs ++ ys) p) free in and_from (not (meets p x)) (is_free xs p) parts.0 (free_front xs ys p parts.1)

free_each : (used : List Place) (p : Place) → ((q : Place) → IsOneOf q used → meets p q ≡ false) → is_free used p ≡ true
free_each [] p each = refl
free_each (x ∷ used) p each = and_from (not (meets p x)) (is_free used p) (ap not (each x (inl refl))) (free_each used p (λ q at. each q (inr at)))

free_both : (xs ys : List Place) (p : Place) → is_free xs p ≡ true → is_free ys p ≡ true → is_free (xs ++ ys) p ≡ true
free_both [] ys p front back = back
free_both (x ∷ xs) ys p front back =
    let parts = and_parts (not (meets p x)) (is_free xs p) front in and_from (not (meets p x)) (is_free (xs ++ ys) p) parts.0 (free_both xs ys p parts.1 back)

-- ---- two parts of a list

pub apart_front : (xs ys : List Place) → are_apart (xs ++ ys) ≡ true → are_apart xs ≡ true
apart_front [] ys apart = refl
apart_front (x ∷ xs) ys apart =
    let parts = and_parts (is_free (xs ++ ys) x) (are_apart (xs ++ ys)) apart in
    and_from (is_free xs x) (are_apart xs) (free_front xs ys x parts.0) (apart_front xs ys parts.1)

pub apart_behind : (xs ys : List Place) → are_apart (xs ++ ys) ≡ true → are_apart ys ≡ true
apart_behind [] ys apart = apart
apart_behind (x ∷ xs) ys apart = apart_behind xs ys (and_parts (is_free (xs ++ ys) x) (are_apart (xs ++ ys)) apart).1

-- a place of the first part meets none of the second
pub parts_apart : (xs ys : List Place) (p q : Place) → are_apart (xs ++ ys) ≡ true → IsOneOf p xs → IsOneOf q ys → meets p q ≡ false
parts_apart [] ys p q apart at there = absurd at
parts_apart (x ∷ xs) ys p q apart (inl same) there =
    let own : is_free (xs ++ ys) x ≡ true = (and_parts (is_free (xs ++ ys) x) (are_apart (xs ++ ys)) apart).0 in
    free_of (xs ++ ys) p q (subst (λ (z : Place). is_free (xs ++ ys) z ≡ true) same own) (one_right q xs ys there)
parts_apart (x ∷ xs) ys p q apart (inr at) there =
    parts_apart xs ys p q (and_parts (is_free (xs ++ ys) x) (are_apart (xs ++ ys)) apart).1 at there

pub apart_both : (xs ys : List Place) → are_apart xs ≡ true → are_apart ys ≡ true → ((p q : Place) → IsOneOf p xs → IsOneOf q ys → meets p q ≡ false) → are_apart (xs ++ ys) ≡ true
apart_both [] ys front back cross = back
apart_both (x ∷ xs) ys front back cross =
    let parts = and_parts (is_free xs x) (are_apart xs) front in
    and_from (is_free (xs ++ ys) x) (are_apart (xs ++ ys)) (free_both xs ys x parts.0 (free_each ys x (λ q at. cross x q (inl refl) at)))
    (apart_both xs ys parts.1 back (λ p q at there. cross p q (inr at) there))

-- ---- some of a list

-- some of the places, in their order
abbrev pub AreSomeOf : List Place → List Place → Type 0
AreSomeOf [] [] = Unit {0}
AreSomeOf [] (x ∷ some) = ⊥
AreSomeOf (p ∷ places) [] = Unit {0}
AreSomeOf (p ∷ places) (x ∷ some) = ((p ≡ x) × AreSomeOf places some) ⊎ AreSomeOf places (x ∷ some)

pub some_none : (places : List Place) → AreSomeOf places []
some_none [] = tt
some_none (p ∷ places) = tt

pub some_itself : (places : List Place) → AreSomeOf places places
some_itself [] = tt
some_itself (p ∷ places) = inl (refl, some_itself places)

pub some_behind : (front places some : List Place) → AreSomeOf places some → AreSomeOf (front ++ places) some
some_behind [] places some h = h
some_behind (p ∷ front) places [] h = tt
some_behind (p ∷ front) places (x ∷ some) h = inr (some_behind front places (x ∷ some) h)

pub some_both : (places more some others : List Place) → AreSomeOf places some → AreSomeOf more others → AreSomeOf (places ++ more) (some ++ others)
some_both [] more [] others h k = k
some_both [] more (x ∷ some) others h k = absurd h
some_both (p ∷ places) more [] others h k = some_behind (p ∷ places) more others k
some_both (p ∷ places) more (x ∷ some) others (inl h) k = inl (h.0, some_both places more some others h.1 k)
some_both (p ∷ places) more (x ∷ some) others (inr h) k = inr (some_both places more (x ∷ some) others h k)

some_free : (places some : List Place) (q : Place) → AreSomeOf places some → is_free places q ≡ true → is_free some q ≡ true
some_free [] [] q h free = refl
some_free [] (x ∷ some) q h free = absurd h
some_free (p ∷ places) [] q h free = refl
some_free (p ∷ places) (x ∷ some) q (inl h) free =
    let parts = and_parts (not (meets q p)) (is_free places q) free in
    and_from (not (meets q x)) (is_free some q) (ap (λ (z : Place). not (meets q z)) (sym h.0) ∙ parts.0) (some_free places some q h.1 parts.1)
some_free (p ∷ places) (x ∷ some) q (inr h) free =
    some_free places (x ∷ some) q h (and_parts (not (meets q p)) (is_free places q) free).1

pub some_apart : (places some : List Place) → AreSomeOf places some → are_apart places ≡ true → are_apart some ≡ true
some_apart [] [] h apart = refl
some_apart [] (x ∷ some) h apart = absurd h
some_apart (p ∷ places) [] h apart = refl
some_apart (p ∷ places) (x ∷ some) (inl h) apart =
    let parts = and_parts (is_free places p) (are_apart places) apart in
    and_from (is_free some x) (are_apart some) (ap (is_free some) (sym h.0) ∙ some_free places some p h.1 parts.0) (some_apart places some h.1 parts.1)
some_apart (p ∷ places) (x ∷ some) (inr h) apart = some_apart places (x ∷ some) h (and_parts (is_free places p) (are_apart places) apart).1

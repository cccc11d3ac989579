-- Lists of places by what they sum to, and whether a place is free beside them.
use Rattle.std.proofs.Common.{◌≡◌, ℕ, zero, suc, ◌+◌, ◌<◌, ◌≤◌, min, max, List, [], ◌∷◌, ◌++◌, refl, sym, ap, subst, ◌∙◌, arith, zero-add}
use Rattle.std.specs.Prelude.{Bool, true, false, ◌&&◌, not, ◌==◌, ◌⊎◌, nat_lt, nat_le, Contains}
use Rattle.std.proofs.Common.{inl, inr}
use Rattle.std.proofs.lemmas.Bool.{eq-eqb, eqb-true, ltb-true, lt-ltb, le-leb, leb-true, and_parts, and_from, cases_Bool, false≢true, not-true, not_from_false, false_from_ne_true}
use Rattle.std.proofs.lemmas.List.Elements.{Contains-append_cases, Contains-append_right}
use Rattle.zio_types.specs.declared.place.Place.{Place}
use Rattle.zio_types.specs.Places.{end_of, meets, is_free}
use Rattle.zio_places.specs.Ordered.{is_same_place}
use Rattle.zio_places.specs.Tables.{covers, one_if, total, cover_count}

pub total-append : (f : Place → ℕ) (xs ys : List Place) → total f (xs ++ ys) ≡ total f xs + total f ys
total-append f [] ys = sym (zero-add (total f ys))
total-append f (x ∷ xs) ys = omega (arith, total-append f xs ys)

pub one_if-true : (b : Bool) → 0 < one_if b → b ≡ true
one_if-true true h = refl
one_if-true false h = absurd (omega arith)

pub one_if-le : (b : Bool) → one_if b ≤ 1
one_if-le true = omega arith
one_if-le false = omega arith

-- a place has the sectors from its first to its last
pub covers-from : (p : Place) (top sector : ℕ) → p.top ≡ top → p.sector ≤ sector → sector < end_of p → covers p top sector ≡ true
covers-from p top sector t a b =
    and_from (p.top == top) (nat_le p.sector sector && nat_lt sector (end_of p)) (eq-eqb p.top top t)
    (and_from (nat_le p.sector sector) (nat_lt sector (end_of p)) (le-leb p.sector sector a) (lt-ltb sector (end_of p) b))

pub record Covered (p : Place) (on sector : ℕ) : Type 0 where
  pub top : p.top ≡ on
  pub from : p.sector ≤ sector
  pub to : sector < end_of p

pub covers-parts : (p : Place) (top sector : ℕ) → covers p top sector ≡ true → Covered p top sector
covers-parts p t sector h =
    let parts = and_parts (p.top == t) (nat_le p.sector sector && nat_lt sector (end_of p)) h in
    let ends = and_parts (nat_le p.sector sector) (nat_lt sector (end_of p)) parts.1 in
    record { top = eqb-true p.top t parts.0; from = leb-true p.sector sector ends.0; to = ltb-true sector (end_of p) ends.1 }

-- places that have a sector in common meet, and such a sector can be named
pub meets-from : (p q : Place) (sector : ℕ) → covers p q.top sector ≡ true → covers q q.top sector ≡ true → meets p q ≡ true
meets-from p q sector hp hq =
    let cp = covers-parts p q.top sector hp in
    let cq = covers-parts q q.top sector hq in
    and_from (p.top == q.top) (nat_lt (max p.sector q.sector) (min (end_of p) (end_of q))) (eq-eqb p.top q.top cp.top)
    (lt-ltb (max p.sector q.sector) (min (end_of p) (end_of q)) (omega (arith, cp.from, cp.to, cq.from, cq.to)))

pub record Common (p q : Place) : Type 0 where
  pub same_top : p.top ≡ q.top
  pub sector : ℕ
  pub of_first : covers p q.top sector ≡ true
  pub of_second : covers q q.top sector ≡ true

pub meets-common : (p q : Place) → meets p q ≡ true → Common p q
meets-common p q h =
    let parts = and_parts (p.top == q.top) (nat_lt (max p.sector q.sector) (min (end_of p) (end_of q))) h in
    let same : p.top ≡ q.top = eqb-true p.top q.top parts.0 in
    let below : max p.sector q.sector < min (end_of p) (end_of q) = ltb-true (max p.sector q.sector) (min (end_of p) (end_of q)) parts.1 in
    record {
      same_top = same;
      sector = max p.sector q.sector;
      of_first = covers-from p q.top (max p.sector q.sector) same (omega arith) (omega (arith, below));
      of_second = covers-from q q.top (max p.sector q.sector) refl (omega arith) (omega (arith, below));
    }

pub meets-symmetric : (p q : Place) → meets p q ≡ meets q p
meets-symmetric p q =
    elim (cases_Bool (meets p q)) [
      | inl on ↦
          let c = meets-common p q on in
          let swapped : meets q p ≡ true = meets-from q p c.sector (subst (λ t. covers q t c.sector ≡ true) (sym c.same_top) c.of_second) (subst (λ t. covers p t c.sector ≡ true) (sym c.same_top) c.of_first) in
          on ∙ sym swapped
      | inr off ↦
          off ∙ sym (false_from_ne_true (meets q p) (λ on.
          let c = meets-common q p on in
          let back : meets p q ≡ true = meets-from p q c.sector (subst (λ t. covers p t c.sector ≡ true) (sym c.same_top) c.of_second) (subst (λ t. covers q t c.sector ≡ true) (sym c.same_top) c.of_first) in
          false≢true (sym off ∙ back)))
    ]

-- a place is free where none of its sectors is counted
pub is_free-from_counts : (used : List Place) (p : Place) → ((sector : ℕ) → covers p p.top sector ≡ true → cover_count used p.top sector ≡ 0) → is_free used p ≡ true
is_free-from_counts [] p h = refl
is_free-from_counts (q ∷ used) p h =
    let apart : meets p q ≡ false = false_from_ne_true (meets p q) (λ on.
    let c = meets-common p q on in
    let mine : covers p p.top c.sector ≡ true = subst (λ t. covers p t c.sector ≡ true) (sym c.same_top) c.of_first in
    let its : covers q p.top c.sector ≡ true = subst (λ t. covers q t c.sector ≡ true) (sym c.same_top) c.of_second in
    let one : one_if (covers q p.top c.sector) ≡ 1 = ap one_if its in
    absurd (omega (arith, h c.sector mine, one))) in
    and_from (not (meets p q)) (is_free used p) (not_from_false (meets p q) apart)
    (is_free-from_counts used p (λ sector mine. omega (arith, h sector mine)))

pub counts-from_is_free : (used : List Place) (p : Place) (sector : ℕ) → is_free used p ≡ true → covers p p.top sector ≡ true → cover_count used p.top sector ≡ 0
counts-from_is_free [] p sector h mine = refl
counts-from_is_free (q ∷ used) p sector h mine =
    let parts = and_parts (not (meets p q)) (is_free used p) h in
    let apart : meets p q ≡ false = not-true (meets p q) parts.0 in
    let none : covers q p.top sector ≡ false = false_from_ne_true (covers q p.top sector) (λ its.
    let c = covers-parts q p.top sector its in
    let back : covers p q.top sector ≡ true = subst (λ t. covers p t sector ≡ true) (sym c.top) mine in
    let own : covers q q.top sector ≡ true = subst (λ t. covers q t sector ≡ true) (sym c.top) its in
    false≢true (sym apart ∙ meets-from p q sector back own)) in
    let zero_here : one_if (covers q p.top sector) ≡ 0 = ap one_if none in
    omega (arith, zero_here, counts-from_is_free used p sector parts.1 mine)

-- ---- membership by sums
pub is_same_place-refl : (p : Place) → is_same_place p p ≡ true
is_same_place-refl p =
    and_from (p.top == p.top) ((p.sector == p.sector) && (p.sectors == p.sectors)) (eq-eqb p.top p.top refl)
    (and_from (p.sector == p.sector) (p.sectors == p.sectors) (eq-eqb p.sector p.sector refl) (eq-eqb p.sectors p.sectors refl))

pub place_from : (p q : Place) → p.top ≡ q.top → p.sector ≡ q.sector → p.sectors ≡ q.sectors → p ≡ q
place_from p q t s n =
    let make : ℕ → ℕ → ℕ → Place = λ a b c. record { top = a; sector = b; sectors = c } in
    ap (λ a. make a p.sector p.sectors) t ∙ ap (λ b. make q.top b p.sectors) s ∙ ap (λ c. make q.top q.sector c) n

pub is_same_place-true : (p q : Place) → is_same_place p q ≡ true → p ≡ q
is_same_place-true p q h =
    let parts = and_parts (p.top == q.top) ((p.sector == q.sector) && (p.sectors == q.sectors)) h in
    let ends = and_parts (p.sector == q.sector) (p.sectors == q.sectors) parts.1 in
    let top : p.top ≡ q.top = eqb-true p.top q.top parts.0 in
    let sector : p.sector ≡ q.sector = eqb-true p.sector q.sector ends.0 in
    let sectors : p.sectors ≡ q.sectors = eqb-true p.sectors q.sectors ends.1 in
    place_from p q top sector sectors

abbrev pub place_count : Place → List Place → ℕ
place_count p xs = total (λ q. one_if (is_same_place p q)) xs

pub Contains-nothing : (p : Place) → Contains [] p → ⊥
Contains-nothing p h = omega (arith, h.1)

pub Contains-head : (x : Place) (xs : List Place) → Contains (x ∷ xs) x
Contains-head x xs = (0, omega arith, refl)

pub Contains-tail : (x p : Place) (xs : List Place) → Contains xs p → Contains (x ∷ xs) p
Contains-tail x p xs h = Contains-append_right (x ∷ []) xs p h

pub Contains-cases : (x p : Place) (xs : List Place) → Contains (x ∷ xs) p → (x ≡ p) ⊎ Contains xs p
Contains-cases x p xs h = elim (Contains-append_cases (x ∷ []) xs p h) [ inl one ↦ inl (only x p one) | inr rest ↦ inr rest ] where
  only : (x p : Place) → Contains (x ∷ []) p → x ≡ p
  only x p (zero, _, is) = is
  only x p (suc k, below, _) = absurd (omega (arith, below))

-- a sum over places has each of them in it
pub total-contains : (f : Place → ℕ) (xs : List Place) (p : Place) → Contains xs p → f p ≤ total f xs
total-contains f [] p h = absurd (Contains-nothing p h)
total-contains f (x ∷ xs) p h =
    elim (Contains-cases x p xs h) [
      | inl same ↦ omega (arith, ap f same)
      | inr rest ↦ omega (arith, total-contains f xs p rest)
    ]

pub place_count-contains : (p : Place) (xs : List Place) → Contains xs p → 0 < place_count p xs
place_count-contains p xs h =
    let one : one_if (is_same_place p p) ≡ 1 = ap one_if (is_same_place-refl p) in
    omega (arith, one, total-contains (λ q. one_if (is_same_place p q)) xs p h)

pub contains-place_count : (p : Place) (xs : List Place) → 0 < place_count p xs → Contains xs p
contains-place_count p [] h = absurd (omega arith)
contains-place_count p (x ∷ xs) h =
    elim (cases_Bool (is_same_place p x)) [
      | inl on ↦ subst (λ q. Contains (x ∷ xs) q) (sym (is_same_place-true p x on)) (Contains-head x xs)
      | inr off ↦
          let zero_here : one_if (is_same_place p x) ≡ 0 = ap one_if off in
          Contains-tail x p xs (contains-place_count p xs (omega (arith, zero_here, h)))
    ]

-- lists of the same sums have the same places
pub contains-same : (xs ys : List Place) → ((f : Place → ℕ) → total f xs ≡ total f ys) → (p : Place) → Contains xs p → Contains ys p
contains-same xs ys h p there = contains-place_count p ys (omega (arith, h (λ q. one_if (is_same_place p q)), place_count-contains p xs there))

-- places that sum to no more are among the others
pub contains-included : (xs ys : List Place) → ((f : Place → ℕ) → total f xs ≤ total f ys) → (p : Place) → Contains xs p → Contains ys p
contains-included xs ys h p there = contains-place_count p ys (omega (arith, h (λ q. one_if (is_same_place p q)), place_count-contains p xs there))

-- Lists of places in the order of tops and sectors: one list for each set, and what placing and taking out leave.
use Rattle.std.proofs.Common.{◌≡◌, ℕ, zero, suc, ◌+◌, ◌<◌, ◌≤◌, List, [], ◌∷◌, ◌++◌, refl, sym, ap, subst, ◌∙◌, arith}
use Rattle.std.specs.Prelude.{true, false, cond, ◌&&◌, ◌==◌, nat_lt, Contains}
use Rattle.std.proofs.Common.{inl, inr}
use Rattle.std.proofs.lemmas.Bool.{cases_Bool, or_cases, or_parts, and_parts, and_from, eq-eqb, eqb-true, ltb-true, ltb-false, false≢true}
use Rattle.std.proofs.lemmas.List.Elements.{Contains-append_cases}
use Rattle.zio_types.specs.declared.place.Place.{Place}
use Rattle.zio_places.specs.Ordered.{comes_before, is_same_place, placed_in, all_placed_in, without}
use Rattle.zio_places.specs.Tables.{TopState, places_from, live_from, live_of, total, AreAllocated}
use Rattle.zio_places.proofs.PlaceLemmas.{contains-same, Contains-nothing, Contains-head, Contains-tail, Contains-cases, is_same_place-true, is_same_place-refl}
use Rattle.zio_places.proofs.TableLemmas.{places_from-contains, live_from-contains}

-- the first place comes before the second, and doesn't come after it
pub record IsBefore (p q : Place) : Type 0 where
  pub top : p.top ≤ q.top
  pub sector : p.top ≡ q.top → p.sector < q.sector

pub record IsNotAfter (p q : Place) : Type 0 where
  pub top : p.top ≤ q.top
  pub sector : p.top ≡ q.top → p.sector ≤ q.sector

before-true : (p q : Place) → comes_before p q ≡ true → IsBefore p q
before-true p q h =
    elim (or_cases (nat_lt p.top q.top) ((p.top == q.top) && nat_lt p.sector q.sector) h) [
      | inl lower ↦ let less : p.top < q.top = ltb-true p.top q.top lower in record { top = omega arith; sector = λ e. absurd (omega (arith, less, e)) }
      | inr same ↦
          let parts = and_parts (p.top == q.top) (nat_lt p.sector q.sector) same in
          let top : p.top ≡ q.top = eqb-true p.top q.top parts.0 in
          let less : p.sector < q.sector = ltb-true p.sector q.sector parts.1 in
          record { top = omega arith; sector = λ e. less }
    ]

before-false : (p q : Place) → comes_before p q ≡ false → IsNotAfter q p
before-false p q h =
    let parts = or_parts (nat_lt p.top q.top) ((p.top == q.top) && nat_lt p.sector q.sector) h in
    let most : q.top ≤ p.top = ltb-false p.top q.top parts.0 in
    record {
      top = most;
      sector = λ e.
          elim (cases_Bool (nat_lt p.sector q.sector)) [
            | inl on ↦ absurd (false≢true (sym parts.1 ∙ and_from (p.top == q.top) (nat_lt p.sector q.sector) (eq-eqb p.top q.top (sym e)) on))
            | inr off ↦ ltb-false p.sector q.sector off
          ];
    }

not_after-of_before : (p q : Place) → IsBefore p q → IsNotAfter p q
not_after-of_before p q h = record { top = h.top; sector = λ e. omega (arith, h.sector e) }

not_after-then : (p q r : Place) → IsNotAfter p q → IsNotAfter q r → IsNotAfter p r
not_after-then p q r h k = record {
  top = omega (arith, h.top, k.top);
  sector = λ e.
      let first : p.top ≡ q.top = omega (arith, h.top, k.top, e) in
      let second : q.top ≡ r.top = omega (arith, first, e) in
      omega (arith, h.sector first, k.sector second);
}

-- each comes before all that follow it, and none comes after one that follows it
abbrev pub Rises : List Place → Type 0
Rises [] = Unit {0}
Rises (x ∷ xs) = ((q : Place) → Contains xs q → IsBefore x q) × Rises xs

abbrev pub NeverFalls : List Place → Type 0
NeverFalls [] = Unit {0}
NeverFalls (x ∷ xs) = ((q : Place) → Contains xs q → IsNotAfter x q) × NeverFalls xs

never_falls-of_rises : (xs : List Place) → Rises xs → NeverFalls xs
never_falls-of_rises [] h = tt
never_falls-of_rises (x ∷ xs) h = (λ q there. not_after-of_before x q (h.0 q there), never_falls-of_rises xs h.1)

rises-append : (xs ys : List Place) → Rises xs → Rises ys → ((p q : Place) → Contains xs p → Contains ys q → IsBefore p q) → Rises (xs ++ ys)
rises-append [] ys h k over = k
rises-append (x ∷ xs) ys h k over = (
  λ q there.
      elim (Contains-append_cases xs ys q there) [
        | inl first ↦ h.0 q first
        | inr later ↦ over x q (Contains-head x xs) later
      ],
  rises-append xs ys h.1 k (λ p q here there. over p q (Contains-tail x p xs here) there),
)

rises-places_from : (top sector : ℕ) (lengths : List ℕ) → Rises (places_from top sector lengths)
rises-places_from top sector [] = tt
rises-places_from top sector (zero ∷ lengths) = rises-places_from top (sector + 1) lengths
rises-places_from top sector (suc n ∷ lengths) = (
  λ q there.
      let is = places_from-contains top (sector + 1) lengths q there in
      record { top = omega (arith, is.on); sector = λ e. omega (arith, is.from) },
  rises-places_from top (sector + 1) lengths,
)

rises-live_from : (top : ℕ) (tops : List TopState) → Rises (live_from top tops)
rises-live_from top [] = tt
rises-live_from top (t ∷ tops) =
    rises-append (places_from top 0 t.lengths) (live_from (top + 1) tops) (rises-places_from top 0 t.lengths) (rises-live_from (top + 1) tops)
    (λ p q here there.
    let first = places_from-contains top 0 t.lengths p here in
    let later = live_from-contains (top + 1) tops q there in
    record { top = omega (arith, first.on, later.from); sector = λ e. absurd (omega (arith, first.on, later.from, e)) })

-- places of the same sums are one list where they stand in order
same_lists : (xs ys : List Place) → Rises xs → NeverFalls ys → ((f : Place → ℕ) → total f xs ≡ total f ys) → xs ≡ ys
same_lists [] [] rises falls h = refl
same_lists [] (y ∷ ys) rises falls h = absurd (Contains-nothing y (contains-same (y ∷ ys) [] (λ f. sym (h f)) y (Contains-head y ys)))
same_lists (x ∷ xs) [] rises falls h = absurd (Contains-nothing x (contains-same (x ∷ xs) [] h x (Contains-head x xs)))
same_lists (x ∷ xs) (y ∷ ys) rises falls h =
    let there : Contains (y ∷ ys) x = contains-same (x ∷ xs) (y ∷ ys) h x (Contains-head x xs) in
    let here : Contains (x ∷ xs) y = contains-same (y ∷ ys) (x ∷ xs) (λ f. sym (h f)) y (Contains-head y ys) in
    let same : x ≡ y =
    elim (Contains-cases x y xs here) [
      | inl one ↦ one
      | inr later ↦
          elim (Contains-cases y x ys there) [
            | inl one ↦ sym one
            | inr also ↦
                let up = rises.0 y later in
                let down = falls.0 x also in
                let level : x.top ≡ y.top = omega (arith, up.top, down.top) in
                absurd (omega (arith, up.sector level, down.sector (sym level)))
          ]
    ] in
    ap (λ z. z ∷ xs) same ∙ ap (λ zs. y ∷ zs) (same_lists xs ys rises.1 falls.1 (λ f. omega (arith, h f, ap f same)))

-- ---- a place is put in
pub total-placed : (f : Place → ℕ) (p : Place) (xs : List Place) → total f (placed_in p xs) ≡ f p + total f xs
total-placed f p [] = refl
total-placed f p (q ∷ xs) =
    let rest = total-placed f p xs in
    elim (cases_Bool (comes_before q p)) [
      | inl on ↦ ap (λ b. total f (cond b (q ∷ placed_in p xs) (p ∷ q ∷ xs))) on ∙ omega (arith, rest)
      | inr off ↦ ap (λ b. total f (cond b (q ∷ placed_in p xs) (p ∷ q ∷ xs))) off
    ]

pub total-all_placed : (f : Place → ℕ) (places xs : List Place) → total f (all_placed_in places xs) ≡ total f places + total f xs
total-all_placed f [] xs = omega arith
total-all_placed f (p ∷ places) xs = omega (arith, total-all_placed f places (placed_in p xs), total-placed f p xs)

never_falls-placed : (p : Place) (xs : List Place) → NeverFalls xs → NeverFalls (placed_in p xs)
never_falls-placed p [] h = (λ q there. absurd (Contains-nothing q there), tt)
never_falls-placed p (x ∷ xs) h =
    elim (cases_Bool (comes_before x p)) [
      | inl on ↦
          let later : NeverFalls (x ∷ placed_in p xs) = (
            λ q there.
                elim (Contains-cases p q xs (contains-same (placed_in p xs) (p ∷ xs) (λ f. total-placed f p xs) q there)) [
                  | inl one ↦ subst (λ r. IsNotAfter x r) one (not_after-of_before x p (before-true x p on))
                  | inr rest ↦ h.0 q rest
                ],
            never_falls-placed p xs h.1,
          ) in
          subst (λ b. NeverFalls (cond b (x ∷ placed_in p xs) (p ∷ x ∷ xs))) (sym on) later
      | inr off ↦
          let first : IsNotAfter p x = before-false x p off in
          let here : NeverFalls (p ∷ x ∷ xs) = (
            λ q there.
                elim (Contains-cases x q xs there) [
                  | inl one ↦ subst (λ r. IsNotAfter p r) one first
                  | inr rest ↦ not_after-then p x q first (h.0 q rest)
                ],
            h,
          ) in
          subst (λ b. NeverFalls (cond b (x ∷ placed_in p xs) (p ∷ x ∷ xs))) (sym off) here
    ]

never_falls-all_placed : (places xs : List Place) → NeverFalls xs → NeverFalls (all_placed_in places xs)
never_falls-all_placed [] xs h = h
never_falls-all_placed (p ∷ places) xs h = never_falls-all_placed places (placed_in p xs) (never_falls-placed p xs h)

-- ---- a place is taken out
pub total-without : (f : Place → ℕ) (p : Place) (xs : List Place) → Contains xs p → total f xs ≡ f p + total f (without p xs)
total-without f p [] h = absurd (Contains-nothing p h)
total-without f p (x ∷ xs) h =
    elim (cases_Bool (is_same_place p x)) [
      | inl on ↦
          let gone : total f (without p (x ∷ xs)) ≡ total f xs = ap (λ b. total f (cond b xs (x ∷ without p xs))) on in
          omega (arith, gone, ap f (is_same_place-true p x on))
      | inr off ↦
          let left : total f (without p (x ∷ xs)) ≡ f x + total f (without p xs) = ap (λ b. total f (cond b xs (x ∷ without p xs))) off in
          let rest : Contains xs p =
          elim (Contains-cases x p xs h) [
            | inl same ↦ absurd (false≢true (sym off ∙ ap (λ y. is_same_place p y) same ∙ is_same_place-refl p))
            | inr later ↦ later
          ] in
          omega (arith, left, total-without f p xs rest)
    ]

contains-without : (p q : Place) (xs : List Place) → Contains (without p xs) q → Contains xs q
contains-without p q [] h = h
contains-without p q (x ∷ xs) h =
    elim (cases_Bool (is_same_place p x)) [
      | inl on ↦ Contains-tail x q xs (subst (λ b. Contains (cond b xs (x ∷ without p xs)) q) on h)
      | inr off ↦
          elim (Contains-cases x q (without p xs) (subst (λ b. Contains (cond b xs (x ∷ without p xs)) q) off h)) [
            | inl same ↦ subst (λ r. Contains (x ∷ xs) r) same (Contains-head x xs)
            | inr later ↦ Contains-tail x q xs (contains-without p q xs later)
          ]
    ]

never_falls-without : (p : Place) (xs : List Place) → NeverFalls xs → NeverFalls (without p xs)
never_falls-without p [] h = tt
never_falls-without p (x ∷ xs) h =
    elim (cases_Bool (is_same_place p x)) [
      | inl on ↦ subst (λ b. NeverFalls (cond b xs (x ∷ without p xs))) (sym on) h.1
      | inr off ↦
          let left : NeverFalls (x ∷ without p xs) = (λ q there. h.0 q (contains-without p q xs there), never_falls-without p xs h.1) in
          subst (λ b. NeverFalls (cond b xs (x ∷ without p xs))) (sym off) left
    ]

-- ---- what the tables hold, as a list
pub live-allocated : (old new : List TopState) (places : List Place) → AreAllocated old new places → live_of new ≡ all_placed_in places (live_of old)
live-allocated old new places h =
    same_lists (live_of new) (all_placed_in places (live_of old)) (rises-live_from 0 new)
    (never_falls-all_placed places (live_of old) (never_falls-of_rises (live_of old) (rises-live_from 0 old)))
    (λ f. h.live f ∙ sym (total-all_placed f places (live_of old)))

pub live-removed : (old new : List TopState) (p : Place) → ((f : Place → ℕ) → total f (live_of old) ≡ f p + total f (live_of new)) → Contains (live_of old) p → live_of new ≡ without p (live_of old)
live-removed old new p h there =
    same_lists (live_of new) (without p (live_of old)) (rises-live_from 0 new)
    (never_falls-without p (live_of old) (never_falls-of_rises (live_of old) (rises-live_from 0 old)))
    (λ f. omega (arith, h f, total-without f p (live_of old) there))

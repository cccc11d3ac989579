-- Places on whole units: a run of free sectors begins where a used place ends, and so at a whole unit.
use Rattle.std.proofs.Common.{◌≡◌, ℕ, zero, suc, ◌+◌, ◌-◌, ◌*◌, ◌/◌, ◌%◌, ◌<◌, ◌≤◌, List, [], ◌∷◌, ◌++◌, length, sym, ap, subst, ◌∙◌, arith}
use Rattle.std.specs.Prelude.{true, false, cond, ◌||◌, ◌==◌, Contains, slice_get}
use Rattle.std.proofs.Common.{inl, inr}
use Rattle.std.proofs.lemmas.Bool.{cases_Bool, cases_eq, cases_lt, or_cases, and_parts, and_from, eq-eqb, eqb-true, false≢true}
use Rattle.std.proofs.lemmas.Nat.{div-add-mod', mod-mul-add}
use Rattle.std.proofs.Math.Nat.{mod-zero, zero-mod}
use Rattle.std.proofs.lemmas.List.Elements.{Contains-append_cases}
use Rattle.zio_types.specs.declared.place.Place.{Place}
use Rattle.zio_types.specs.declared.place.TopSize.{TopSize}
use Rattle.zio_types.specs.Places.{end_of, rounded_to, sectors_on, fits_on, fits_size, is_inside, is_aligned_on, is_aligned, is_unit, is_lawful_top, AreCopies}
use Rattle.zio_types.specs.Choices.{Choice, is_refused, taken_by}
use Rattle.zio_places.specs.Flags.{flag_at}
use Rattle.zio_places.specs.Spaces.{is_on_top, are_on_tops}
use Rattle.zio_places.specs.Tables.{TopState, IsSmallUnit, top_at, size_of, sizes_of, whole_units, AreAligned, covers, one_if, cover_count, taken_in, AreBitmapsOf, HasFlags}
use Rattle.zio_places.proofs.PlaceLemmas.{covers-from, covers-parts, total-contains, Contains-nothing, Contains-head, Contains-tail, Contains-cases}
use Rattle.zio_places.proofs.ChangeLemmas.{taken_in-free, taken_in-used}

-- ---- whole units
mod-mul : (a u : ℕ) → a * u % u ≡ 0
mod-mul a zero = mod-zero (a * zero) ∙ omega arith
mod-mul a (suc u) =
    let whole : a * suc u ≡ a * suc u + 0 = omega arith in
    ap (λ n. n % suc u) whole ∙ mod-mul-add a (suc u) 0 (omega arith)

pub rounded-whole : (u n : ℕ) → rounded_to u n % u ≡ 0
rounded-whole u n = mod-mul ((n + (u - 1)) / u) u

pub sum-whole : (u a b : ℕ) → a % u ≡ 0 → b % u ≡ 0 → (a + b) % u ≡ 0
sum-whole zero a b ea eb = mod-zero (a + b) ∙ omega (arith, mod-zero a, mod-zero b, ea, eb)
sum-whole (suc u) a b ea eb =
    let both : a + b ≡ (a / suc u + b / suc u) * suc u = omega (arith, div-add-mod' a (suc u), div-add-mod' b (suc u), ea, eb) in
    ap (λ n. n % suc u) both ∙ mod-mul (a / suc u + b / suc u) (suc u)

small-of : (n m : ℕ) → (n == m) ≡ true → 0 < m → m ≤ 8 → IsSmallUnit n
small-of n m h some most = let e : n ≡ m = eqb-true n m h in record { some = omega (arith, e); most = omega (arith, e) }

unit-small : (n : ℕ) → is_unit n ≡ true → IsSmallUnit n
unit-small n h =
    elim (or_cases (((n == 1) || (n == 2)) || (n == 4)) (n == 8) h) [
      | inl less ↦
          elim (or_cases ((n == 1) || (n == 2)) (n == 4) less) [
            | inl few ↦ elim (or_cases (n == 1) (n == 2) few) [ inl one ↦ small-of n 1 one (omega arith) (omega arith) | inr two ↦ small-of n 2 two (omega arith) (omega arith) ]
            | inr four ↦ small-of n 4 four (omega arith) (omega arith)
          ]
      | inr eight ↦ small-of n 8 eight (omega arith) (omega arith)
    ]

pub top-small : (top : TopSize) → is_lawful_top top ≡ true → IsSmallUnit top.unit
top-small top h = unit-small top.unit (and_parts (is_unit top.unit) (top.sectors % top.unit == 0) h).0

-- ---- places on whole units of their tops
pub record Aligned (tops : List TopState) (p : Place) : Type 0 where
  pub there : p.top < length tops
  pub sector : p.sector % (top_at tops p.top).unit ≡ 0
  pub sectors : p.sectors % (top_at tops p.top).unit ≡ 0

record AlignedOn (tops : List TopState) (top : ℕ) (p : Place) : Type 0 where
  pub there : top < length tops
  pub sector : p.sector % (top_at tops top).unit ≡ 0
  pub sectors : p.sectors % (top_at tops top).unit ≡ 0

aligned_on-parts : (tops : List TopState) (top : ℕ) (p : Place) → is_aligned_on p (slice_get (sizes_of tops) top) ≡ true → AlignedOn tops top p
aligned_on-parts [] top p h = absurd (false≢true h)
aligned_on-parts (t ∷ tops) zero p h =
    let parts = and_parts (p.sector % t.unit == 0) (p.sectors % t.unit == 0) h in
    record { there = omega arith; sector = eqb-true (p.sector % t.unit) 0 parts.0; sectors = eqb-true (p.sectors % t.unit) 0 parts.1 }
aligned_on-parts (t ∷ tops) (suc top) p h =
    let rest = aligned_on-parts tops top p h in
    record { there = omega (arith, rest.there); sector = rest.sector; sectors = rest.sectors }

aligned_on-from : (tops : List TopState) (top : ℕ) (p : Place) → AlignedOn tops top p → is_aligned_on p (slice_get (sizes_of tops) top) ≡ true
aligned_on-from [] top p h = absurd (omega (arith, h.there))
aligned_on-from (t ∷ tops) zero p h =
    and_from (p.sector % t.unit == 0) (p.sectors % t.unit == 0) (eq-eqb (p.sector % t.unit) 0 h.sector) (eq-eqb (p.sectors % t.unit) 0 h.sectors)
aligned_on-from (t ∷ tops) (suc top) p h = aligned_on-from tops top p (record { there = omega (arith, h.there); sector = h.sector; sectors = h.sectors })

pub aligned-parts : (tops : List TopState) (p : Place) → is_aligned (sizes_of tops) p ≡ true → Aligned tops p
aligned-parts tops p h = let on = aligned_on-parts tops p.top p h in record { there = on.there; sector = on.sector; sectors = on.sectors }

pub aligned-from : (tops : List TopState) (p : Place) → Aligned tops p → is_aligned (sizes_of tops) p ≡ true
aligned-from tops p h = aligned_on-from tops p.top p (record { there = h.there; sector = h.sector; sectors = h.sectors })

-- ---- places that fit a size
pub record Fits (tops : List TopState) (size : ℕ) (p : Place) : Type 0 where
  pub there : p.top < length tops
  pub sector : p.sector % (top_at tops p.top).unit ≡ 0
  pub sectors : p.sectors ≡ whole_units tops p.top (size / 512)

record FitsOn (tops : List TopState) (top size : ℕ) (p : Place) : Type 0 where
  pub there : top < length tops
  pub sector : p.sector % (top_at tops top).unit ≡ 0
  pub sectors : p.sectors ≡ whole_units tops top (size / 512)

fits_on-parts : (tops : List TopState) (top size : ℕ) (p : Place) → fits_on size p (slice_get (sizes_of tops) top) ≡ true → FitsOn tops top size p
fits_on-parts [] top size p h = absurd (false≢true h)
fits_on-parts (t ∷ tops) zero size p h =
    let parts = and_parts (p.sector % t.unit == 0) (p.sectors == sectors_on (size_of t) size) h in
    record { there = omega arith; sector = eqb-true (p.sector % t.unit) 0 parts.0; sectors = eqb-true p.sectors (sectors_on (size_of t) size) parts.1 }
fits_on-parts (t ∷ tops) (suc top) size p h =
    let rest = fits_on-parts tops top size p h in
    record { there = omega (arith, rest.there); sector = rest.sector; sectors = rest.sectors }

fits_on-from : (tops : List TopState) (top size : ℕ) (p : Place) → FitsOn tops top size p → fits_on size p (slice_get (sizes_of tops) top) ≡ true
fits_on-from [] top size p h = absurd (omega (arith, h.there))
fits_on-from (t ∷ tops) zero size p h =
    and_from (p.sector % t.unit == 0) (p.sectors == sectors_on (size_of t) size) (eq-eqb (p.sector % t.unit) 0 h.sector) (eq-eqb p.sectors (sectors_on (size_of t) size) h.sectors)
fits_on-from (t ∷ tops) (suc top) size p h = fits_on-from tops top size p (record { there = omega (arith, h.there); sector = h.sector; sectors = h.sectors })

pub fits-parts : (tops : List TopState) (size : ℕ) (p : Place) → fits_size (sizes_of tops) size p ≡ true → Fits tops size p
fits-parts tops size p h = let on = fits_on-parts tops p.top size p h in record { there = on.there; sector = on.sector; sectors = on.sectors }

pub fits-from : (tops : List TopState) (size : ℕ) (p : Place) → Fits tops size p → fits_size (sizes_of tops) size p ≡ true
fits-from tops size p h = fits_on-from tops p.top size p (record { there = h.there; sector = h.sector; sectors = h.sectors })

fits-aligned : (tops : List TopState) (size : ℕ) (p : Place) → fits_size (sizes_of tops) size p ≡ true → is_aligned (sizes_of tops) p ≡ true
fits-aligned tops size p h =
    let fits = fits-parts tops size p h in
    let u = (top_at tops p.top).unit in
    aligned-from tops p (record { there = fits.there; sector = fits.sector; sectors = ap (λ n. n % u) fits.sectors ∙ rounded-whole u (size / 512) })

-- ---- lists of such places
pub AreAligned-append : (sizes : List TopSize) (xs ys : List Place) → AreAligned sizes xs → AreAligned sizes ys → AreAligned sizes (xs ++ ys)
AreAligned-append sizes xs ys h k p there = elim (Contains-append_cases xs ys p there) [ inl first ↦ h p first | inr later ↦ k p later ]

copies-aligned : (tops : List TopState) (used : List Place) (size : ℕ) (earlier ps : List Place) → AreCopies (sizes_of tops) used size earlier ps → AreAligned (sizes_of tops) ps
copies-aligned tops used size earlier [] h q there = absurd (Contains-nothing q there)
copies-aligned tops used size earlier (p ∷ ps) h q there =
    elim (Contains-cases p q ps there) [
      | inl same ↦ subst (λ r. is_aligned (sizes_of tops) r ≡ true) same (fits-aligned tops size p h.0.fits)
      | inr rest ↦ copies-aligned tops used size (earlier ++ p ∷ []) ps h.1 q rest
    ]

pub AreAligned-copies : (sizes : List TopSize) (tops : List TopState) (used : List Place) (size : ℕ) (earlier ps : List Place) → sizes_of tops ≡ sizes → AreCopies sizes used size earlier ps → AreAligned sizes ps
AreAligned-copies sizes tops used size earlier ps same h =
    subst (λ s. AreAligned s ps) same (copies-aligned tops used size earlier ps (subst (λ s. AreCopies s used size earlier ps) (sym same) h))

pub AreAligned-taken : (sizes : List TopSize) (choice : Choice) → AreAligned sizes choice.places → AreAligned sizes (taken_by choice)
AreAligned-taken sizes choice h =
    elim (cases_Bool (is_refused choice)) [
      | inl on ↦ subst (λ b. AreAligned sizes (cond b [] choice.places)) (sym on) (λ p there. absurd (Contains-nothing p there))
      | inr off ↦ subst (λ b. AreAligned sizes (cond b [] choice.places)) (sym off) h
    ]

pub AreAligned-inside : (sizes : List TopSize) (places : List Place) → are_on_tops sizes places ≡ true → AreAligned sizes places
AreAligned-inside sizes [] h p there = absurd (Contains-nothing p there)
AreAligned-inside sizes (x ∷ xs) h p there =
    let parts = and_parts (is_on_top sizes x) (are_on_tops sizes xs) h in
    elim (Contains-cases x p xs there) [
      | inl same ↦ ap (is_aligned sizes) (sym same) ∙ (and_parts (is_inside sizes x) (is_aligned sizes x) parts.0).1
      | inr later ↦ AreAligned-inside sizes xs parts.1 p later
    ]

-- ---- where a run of free sectors begins
record Covering (used : List Place) (top sector : ℕ) : Type 0 where
  pub place : Place
  pub among : Contains used place
  pub covers : covers place top sector ≡ true

covering : (used : List Place) (top sector : ℕ) → 0 < cover_count used top sector → Covering used top sector
covering [] top sector h = absurd (omega arith)
covering (q ∷ used) top sector h =
    elim (cases_Bool (covers q top sector)) [
      | inl on ↦ record { place = q; among = Contains-head q used; covers = on }
      | inr off ↦
          let none : one_if (covers q top sector) ≡ 0 = ap one_if off in
          let rest = covering used top sector (omega (arith, h, none)) in
          record { place = rest.place; among = Contains-tail q rest.place used rest.among; covers = rest.covers }
    ]

-- it is the end of the used place before it, or the beginning of the top
pub start-aligned : (used : List Place) (tops : List TopState) (p : Place) → AreBitmapsOf used tops → AreAligned (sizes_of tops) used → HasFlags tops p true →
    ((k : ℕ) → k + 1 ≡ p.sector → flag_at (top_at tops p.top).free k ≡ false) → p.sector % (top_at tops p.top).unit ≡ 0
start-aligned used tops p count aligned room start =
    elim (cases_eq p.sector 0) [
      | inl first ↦ ap (λ n. n % (top_at tops p.top).unit) first ∙ zero-mod (top_at tops p.top).unit
      | inr other ↦
          let k = p.sector - 1 in
          let next : k + 1 ≡ p.sector = omega (arith, other) in
          let before : taken_in (top_at tops p.top).free k ≡ 1 = taken_in-used (top_at tops p.top).free k (omega (arith, room.flags.fits, next, room.filled)) (start k next) in
          let free : taken_in (top_at tops p.top).free p.sector ≡ 0 = taken_in-free (top_at tops p.top).free p.sector (room.flags.each p.sector (omega arith) (omega (arith, room.filled))) in
          let q = covering used p.top k (omega (arith, count p.top k, before)) in
          let its = covers-parts q.place p.top k q.covers in
          let ends : end_of q.place ≡ p.sector =
          elim (cases_lt p.sector (end_of q.place)) [
            | inl more ↦
                let one : one_if (covers q.place p.top p.sector) ≡ 1 = ap one_if (covers-from q.place p.top p.sector its.top (omega (arith, its.from, next)) more) in
                absurd (omega (arith, one, total-contains (λ r. one_if (covers r p.top p.sector)) used q.place q.among, count p.top p.sector, free))
            | inr most ↦ omega (arith, most, its.to, next)
          ] in
          let on = aligned-parts tops q.place (aligned q.place q.among) in
          let whole = sum-whole (top_at tops q.place.top).unit q.place.sector q.place.sectors on.sector on.sectors in
          subst (λ t. p.sector % (top_at tops t).unit ≡ 0) its.top (ap (λ n. n % (top_at tops q.place.top).unit) (sym ends) ∙ whole)
    ]

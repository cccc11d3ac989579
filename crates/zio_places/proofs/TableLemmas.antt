-- What the tables say after a change of one top, and which live places they have.
use Rattle.std.proofs.Common.{◌≡◌, ℕ, zero, suc, ◌+◌, ◌-◌, ◌<◌, ◌≤◌, List, [], ◌∷◌, length, get_or, set, refl, sym, ap, subst, ◌∙◌, arith, zero-add}
use Rattle.std.specs.Prelude.{Contains}
use Rattle.std.proofs.Common.{inl, inr}
use Rattle.std.proofs.lemmas.Bool.{cases_eq}
use Rattle.std.proofs.lemmas.List.Elements.{Contains-append_cases, Contains-append_left, Contains-append_right}
use Rattle.zio_types.specs.declared.place.Place.{Place}
use Rattle.zio_places.specs.Tables.{TopState, top_at, places_here, places_from, live_from, live_of, total, length_at}
use Rattle.zio_places.proofs.PlaceLemmas.{total-append, Contains-nothing, Contains-head, Contains-cases, place_from}

-- ---- sums over the live places, after a change of a length
total_set_length : (f : Place → ℕ) (top sector at : ℕ) (lengths : List ℕ) (k n : ℕ) → k < length lengths → sector + k ≡ at →
    total f (places_from top sector (set lengths k n)) + total f (places_here top at (get_or lengths k 0)) ≡ total f (places_from top sector lengths) + total f (places_here top at n)
total_set_length f top sector at [] k n h e = absurd (omega arith)
total_set_length f top sector at (m ∷ lengths) zero n h e =
    let here : at ≡ sector = omega arith in
    rw here (omega (arith, total-append f (places_here top sector n) (places_from top (sector + 1) lengths), total-append f (places_here top sector m) (places_from top (sector + 1) lengths)))
total_set_length f top sector at (m ∷ lengths) (suc k) n h e =
    omega (arith, total_set_length f top (sector + 1) at lengths k n (omega arith) (omega arith), total-append f (places_here top sector m) (places_from top (sector + 1) (set lengths k n)), total-append f (places_here top sector m) (places_from top (sector + 1) lengths))

total_set_top : (f : Place → ℕ) (top at : ℕ) (tops : List TopState) (k : ℕ) (x : TopState) → k < length tops → top + k ≡ at →
    total f (live_from top (set tops k x)) + total f (places_from at 0 (top_at tops k).lengths) ≡ total f (live_from top tops) + total f (places_from at 0 x.lengths)
total_set_top f top at [] k x h e = absurd (omega arith)
total_set_top f top at (t ∷ tops) zero x h e =
    let here : at ≡ top = omega arith in
    rw here (omega (arith, total-append f (places_from top 0 x.lengths) (live_from (top + 1) tops), total-append f (places_from top 0 t.lengths) (live_from (top + 1) tops)))
total_set_top f top at (t ∷ tops) (suc k) x h e =
    omega (arith, total_set_top f (top + 1) at tops k x (omega arith) (omega arith), total-append f (places_from top 0 t.lengths) (live_from (top + 1) (set tops k x)), total-append f (places_from top 0 t.lengths) (live_from (top + 1) tops))

pub total_set : (f : Place → ℕ) (tops : List TopState) (top sector n : ℕ) (x : TopState) → top < length tops → sector < length (top_at tops top).lengths →
    x.lengths ≡ set (top_at tops top).lengths sector n →
    total f (live_of (set tops top x)) + total f (places_here top sector (length_at tops top sector)) ≡ total f (live_of tops) + total f (places_here top sector n)
total_set f tops top sector n x there inside is =
    let change = total_set_top f 0 top tops top x there (zero-add top) in
    let here = total_set_length f top 0 sector (top_at tops top).lengths sector n inside (zero-add sector) in
    let same : total f (places_from top 0 x.lengths) ≡ total f (places_from top 0 (set (top_at tops top).lengths sector n)) = ap (λ ls. total f (places_from top 0 ls)) is in
    omega (arith, change, here, same)

-- ---- which places are live
pub record IsHere (top sector : ℕ) (lengths : List ℕ) (p : Place) : Type 0 where
  pub on : p.top ≡ top
  pub from : sector ≤ p.sector
  pub filled : 0 < p.sectors
  pub size : get_or lengths (p.sector - sector) 0 ≡ p.sectors

places_here-contains : (top sector n : ℕ) (p : Place) → Contains (places_here top sector n) p → (p.top ≡ top) × (p.sector ≡ sector) × (p.sectors ≡ n) × (0 < n)
places_here-contains top sector zero p h = absurd (Contains-nothing p h)
places_here-contains top sector (suc n) p h =
    elim (Contains-cases (record { top = top; sector = sector; sectors = suc n }) p [] h) [
      | inl same ↦ (ap (λ (q : Place). q.top) (sym same), ap (λ (q : Place). q.sector) (sym same), ap (λ (q : Place). q.sectors) (sym same), omega arith)
      | inr none ↦ absurd (Contains-nothing p none)
    ]

contains-places_here : (p : Place) (n : ℕ) → n ≡ p.sectors → 0 < n → Contains (places_here p.top p.sector n) p
contains-places_here p zero e h = absurd (omega arith)
contains-places_here p (suc n) e h =
    let same : record { top = p.top; sector = p.sector; sectors = suc n } ≡ p = place_from (record { top = p.top; sector = p.sector; sectors = suc n }) p refl refl e in
    subst (λ q. Contains (places_here p.top p.sector (suc n)) q) same (Contains-head (record { top = p.top; sector = p.sector; sectors = suc n }) [])

pub places_from-contains : (top sector : ℕ) (lengths : List ℕ) (p : Place) → Contains (places_from top sector lengths) p → IsHere top sector lengths p
places_from-contains top sector [] p h = absurd (Contains-nothing p h)
places_from-contains top sector (n ∷ lengths) p h =
    elim (Contains-append_cases (places_here top sector n) (places_from top (sector + 1) lengths) p h) [
      | inl here ↦
          let is = places_here-contains top sector n p here in
          let first : p.sector - sector ≡ 0 = omega (arith, is.1) in
          record { on = is.0; from = omega (arith, is.1); filled = omega (arith, is.2, is.3); size = ap (λ k. get_or (n ∷ lengths) k 0) first ∙ sym is.2 }
      | inr later ↦
          let is = places_from-contains top (sector + 1) lengths p later in
          let next : p.sector - sector ≡ suc (p.sector - (sector + 1)) = omega (arith, is.from) in
          record { on = is.on; from = omega (arith, is.from); filled = is.filled; size = ap (λ k. get_or (n ∷ lengths) k 0) next ∙ is.size }
    ]

pub contains-places_from : (top sector : ℕ) (lengths : List ℕ) (p : Place) → IsHere top sector lengths p → Contains (places_from top sector lengths) p
contains-places_from top sector [] p h = absurd (omega (arith, h.filled, h.size))
contains-places_from top sector (n ∷ lengths) p h =
    elim (cases_eq p.sector sector) [
      | inl same ↦
          let first : p.sector - sector ≡ 0 = omega (arith, same) in
          let size : n ≡ p.sectors = sym (ap (λ k. get_or (n ∷ lengths) k 0) first) ∙ h.size in
          let there = contains-places_here p n size (omega (arith, size, h.filled)) in
          Contains-append_left (places_here top sector n) (places_from top (sector + 1) lengths) p
          (subst (λ t. Contains (places_here t sector n) p) h.on (subst (λ s. Contains (places_here p.top s n) p) same there))
      | inr other ↦
          let next : p.sector - sector ≡ suc (p.sector - (sector + 1)) = omega (arith, h.from, other) in
          Contains-append_right (places_here top sector n) (places_from top (sector + 1) lengths) p
          (contains-places_from top (sector + 1) lengths p
          (record { on = h.on; from = omega (arith, h.from, other); filled = h.filled; size = sym (ap (λ k. get_or (n ∷ lengths) k 0) next) ∙ h.size }))
    ]

pub record IsLive (top : ℕ) (tops : List TopState) (p : Place) : Type 0 where
  pub from : top ≤ p.top
  pub filled : 0 < p.sectors
  pub size : get_or (top_at tops (p.top - top)).lengths p.sector 0 ≡ p.sectors

pub live_from-contains : (top : ℕ) (tops : List TopState) (p : Place) → Contains (live_from top tops) p → IsLive top tops p
live_from-contains top [] p h = absurd (Contains-nothing p h)
live_from-contains top (t ∷ tops) p h =
    elim (Contains-append_cases (places_from top 0 t.lengths) (live_from (top + 1) tops) p h) [
      | inl here ↦
          let is = places_from-contains top 0 t.lengths p here in
          let first : p.top - top ≡ 0 = omega (arith, is.on) in
          let at : p.sector - 0 ≡ p.sector = omega arith in
          record { from = omega (arith, is.on); filled = is.filled; size = ap (λ k. get_or (top_at (t ∷ tops) k).lengths p.sector 0) first ∙ sym (ap (λ k. get_or t.lengths k 0) at) ∙ is.size }
      | inr later ↦
          let is = live_from-contains (top + 1) tops p later in
          let next : p.top - top ≡ suc (p.top - (top + 1)) = omega (arith, is.from) in
          record { from = omega (arith, is.from); filled = is.filled; size = ap (λ k. get_or (top_at (t ∷ tops) k).lengths p.sector 0) next ∙ is.size }
    ]

contains-live_from : (top : ℕ) (tops : List TopState) (p : Place) → IsLive top tops p → Contains (live_from top tops) p
contains-live_from top [] p h = absurd (omega (arith, h.filled, h.size))
contains-live_from top (t ∷ tops) p h =
    elim (cases_eq p.top top) [
      | inl same ↦
          let first : p.top - top ≡ 0 = omega (arith, same) in
          let at : p.sector - 0 ≡ p.sector = omega arith in
          let size : get_or t.lengths (p.sector - 0) 0 ≡ p.sectors = ap (λ k. get_or t.lengths k 0) at ∙ sym (ap (λ k. get_or (top_at (t ∷ tops) k).lengths p.sector 0) first) ∙ h.size in
          Contains-append_left (places_from top 0 t.lengths) (live_from (top + 1) tops) p
          (contains-places_from top 0 t.lengths p (record { on = same; from = omega arith; filled = h.filled; size = size }))
      | inr other ↦
          let next : p.top - top ≡ suc (p.top - (top + 1)) = omega (arith, h.from, other) in
          Contains-append_right (places_from top 0 t.lengths) (live_from (top + 1) tops) p
          (contains-live_from (top + 1) tops p
          (record { from = omega (arith, h.from, other); filled = h.filled; size = sym (ap (λ k. get_or (top_at (t ∷ tops) k).lengths p.sector 0) next) ∙ h.size }))
    ]

-- a place is live exactly where the table has its length at its first sector
pub live-length : (tops : List TopState) (p : Place) → Contains (live_of tops) p → (0 < p.sectors) × (length_at tops p.top p.sector ≡ p.sectors)
live-length tops p h =
    let is = live_from-contains 0 tops p h in
    let at : p.top - 0 ≡ p.top = omega arith in
    (is.filled, sym (ap (λ k. get_or (top_at tops k).lengths p.sector 0) at) ∙ is.size)

pub length-live : (tops : List TopState) (p : Place) → 0 < p.sectors → length_at tops p.top p.sector ≡ p.sectors → Contains (live_of tops) p
length-live tops p filled size =
    let at : p.top - 0 ≡ p.top = omega arith in
    contains-live_from 0 tops p (record { from = omega arith; filled = filled; size = ap (λ k. get_or (top_at tops k).lengths p.sector 0) at ∙ size })

-- What a change of one top's table changes of all, and how such changes follow on one another.
use Rattle.std.proofs.Common.{◌≡◌, ℕ, zero, suc, ◌+◌, ◌<◌, ◌≤◌, ◌≢◌, List, [], ◌∷◌, length, set, refl, sym, ap, subst, ◌∙◌, arith, add-zero}
use Rattle.std.specs.Prelude.{Bool, true, false, not}
use Rattle.std.proofs.Common.{inl, inr}
use Rattle.std.proofs.lemmas.Bool.{cases_Bool, cases_lt, cases_eq, false_from_ne_true}
use Rattle.std.proofs.lemmas.List.{get_or-set_same, get_or-set_other, get_or_past, get_or_default, length-set}
use Rattle.zio_types.specs.declared.place.Place.{Place}
use Rattle.zio_types.specs.declared.place.TopSize.{TopSize}
use Rattle.zio_types.specs.Places.{end_of}
use Rattle.zio_places.specs.Flags.{flag_at, AreAll, IsRangeSet}
use Rattle.zio_places.specs.Tables.{TopState, no_top, top_at, size_of, sizes_of, places_here, covers, one_if, total, taken_in, taken_at, length_at, HaveEqualLengths, HasFlags, IsMarkedUsed, IsEntered}
use Rattle.zio_places.proofs.PlaceLemmas.{covers-from, covers-parts}
use Rattle.zio_places.proofs.TableLemmas.{total_set}

-- ---- flags and what is taken
taken_in-flag : (xs : List Bool) (k : ℕ) → k < length xs → taken_in xs k ≡ one_if (not (flag_at xs k))
taken_in-flag xs k h = ap (λ b. one_if (not b)) (get_or_default xs k true false h)

taken_in-past : (xs : List Bool) (k : ℕ) → length xs ≤ k → taken_in xs k ≡ 0
taken_in-past xs k h = ap (λ b. one_if (not b)) (get_or_past xs k true h)

pub taken_in-free : (xs : List Bool) (k : ℕ) → flag_at xs k ≡ true → taken_in xs k ≡ 0
taken_in-free xs k e =
    elim (cases_lt k (length xs)) [
      | inl here ↦ taken_in-flag xs k here ∙ ap (λ b. one_if (not b)) e
      | inr past ↦ taken_in-past xs k past
    ]

pub taken_in-used : (xs : List Bool) (k : ℕ) → k < length xs → flag_at xs k ≡ false → taken_in xs k ≡ 1
taken_in-used xs k h e = taken_in-flag xs k h ∙ ap (λ b. one_if (not b)) e

pub taken_in-one : (xs : List Bool) (k : ℕ) → 0 < taken_in xs k → (k < length xs) × (flag_at xs k ≡ false)
taken_in-one xs k h =
    elim (cases_lt k (length xs)) [
      | inl here ↦ (here, false_from_ne_true (flag_at xs k) (λ e. absurd (omega (arith, h, taken_in-free xs k e))))
      | inr past ↦ absurd (omega (arith, h, taken_in-past xs k past))
    ]

pub taken_in-zero : (xs : List Bool) (k : ℕ) → k < length xs → taken_in xs k ≡ 0 → flag_at xs k ≡ true
taken_in-zero xs k here h =
    elim (cases_Bool (flag_at xs k)) [
      | inl on ↦ on
      | inr off ↦
          let one : one_if (not (flag_at xs k)) ≡ 1 = ap (λ b. one_if (not b)) off in
          absurd (omega (arith, h, one, taken_in-flag xs k here))
    ]

-- ---- one top is replaced
pub top_at-set : (tops : List TopState) (k : ℕ) (x : TopState) → k < length tops → top_at (set tops k x) k ≡ x
top_at-set tops k x h = get_or-set_same tops k x no_top h

pub top_at-other : (tops : List TopState) (k t : ℕ) (x : TopState) → t ≢ k → top_at (set tops k x) t ≡ top_at tops t
top_at-other tops k t x h = get_or-set_other tops k t x no_top h

pub sizes_of-set : (tops : List TopState) (k : ℕ) (x : TopState) → k < length tops → size_of x ≡ size_of (top_at tops k) → sizes_of (set tops k x) ≡ sizes_of tops
sizes_of-set [] k x h e = absurd (omega arith)
sizes_of-set (t ∷ tops) zero x h e = ap (λ s. s ∷ sizes_of tops) e
sizes_of-set (t ∷ tops) (suc k) x h e = ap (λ ss. size_of t ∷ ss) (sizes_of-set tops k x (omega arith) e)

-- a top of as many sectors and of the same unit has the same size
pub size_of-same : (x t : TopState) → length x.lengths ≡ length t.lengths → x.unit ≡ t.unit → size_of x ≡ size_of t
size_of-same x t e u =
    let make : ℕ → ℕ → TopSize = λ n m. record { sectors = n; unit = m } in
    ap (λ n. make n x.unit) e ∙ ap (make (length t.lengths)) u

-- a fact of each top, where it holds of the new one and held of all
each_top : (P : TopState → TopState → Type 0) → ((t : TopState) → P t t) → (tops : List TopState) (k : ℕ) (x : TopState) → k < length tops → P (top_at tops k) x →
    (t : ℕ) → P (top_at tops t) (top_at (set tops k x) t)
each_top P same tops k x h new t =
    elim (cases_eq t k) [
      | inl e ↦ subst (λ i. P (top_at tops i) (top_at (set tops k x) i)) (sym e) (subst (λ u. P (top_at tops k) u) (sym (top_at-set tops k x h)) new)
      | inr n ↦ subst (λ u. P (top_at tops t) u) (sym (top_at-other tops k t x n)) (same (top_at tops t))
    ]

inside-top : (tops : List TopState) (p : Place) (flag : Bool) → HasFlags tops p flag → p.top < length tops
inside-top tops p flag h =
    elim (cases_lt p.top (length tops)) [
      | inl here ↦ here
      | inr past ↦
          let none : length (top_at tops p.top).free ≡ 0 = ap (λ (t : TopState). length t.free) (get_or_past tops p.top no_top past) in
          absurd (omega (arith, h.filled, h.flags.fits, none))
    ]

pub HasFlags-top : (tops : List TopState) (p : Place) (flag : Bool) → HasFlags tops p flag → p.top < length tops
HasFlags-top tops p flag h = inside-top tops p flag h

covers-not : (p : Place) (top sector : ℕ) → ((p.top ≡ top) → (p.sector ≤ sector) → (sector < end_of p) → ⊥) → covers p top sector ≡ false
covers-not p top sector h = false_from_ne_true (covers p top sector) (λ on. let c = covers-parts p top sector on in h c.top c.from c.to)

-- free sectors that get used count for their place
taken-marked : (old new : List Bool) (p : Place) (sector : ℕ) → IsRangeSet old new p.sector p.sectors false → AreAll old p.sector p.sectors true →
    taken_in new sector ≡ one_if (covers p p.top sector) + taken_in old sector
taken-marked old new p sector h free =
    elim (cases_lt sector p.sector) [
      | inl before ↦
          let none : one_if (covers p p.top sector) ≡ 0 = ap one_if (covers-not p p.top sector (λ a b c. omega arith)) in
          let same : flag_at new sector ≡ flag_at old sector = h.before sector before in
          let inside : sector < length old = omega (arith, free.fits, before) in
          let here = taken_in-flag new sector (omega (arith, h.length, inside)) in
          let there = taken_in-flag old sector inside in
          let join : one_if (not (flag_at new sector)) ≡ one_if (not (flag_at old sector)) = ap (λ b. one_if (not b)) same in
          omega (arith, none, here, there, join)
      | inr from ↦
          elim (cases_lt sector (end_of p)) [
            | inl within ↦
                let one : one_if (covers p p.top sector) ≡ 1 = ap one_if (covers-from p p.top sector refl from within) in
                let now : flag_at new sector ≡ false = h.within sector from within in
                let used : taken_in new sector ≡ 1 = taken_in-flag new sector (omega (arith, h.length, free.fits, within)) ∙ ap (λ b. one_if (not b)) now in
                omega (arith, one, used, taken_in-free old sector (free.each sector from within))
            | inr after ↦
                let none : one_if (covers p p.top sector) ≡ 0 = ap one_if (covers-not p p.top sector (λ a b c. omega (arith, after))) in
                let same : flag_at new sector ≡ flag_at old sector = h.after sector after in
                elim (cases_lt sector (length old)) [
                  | inl inside ↦
                      let here = taken_in-flag new sector (omega (arith, h.length, inside)) in
                      let there = taken_in-flag old sector inside in
                      let join : one_if (not (flag_at new sector)) ≡ one_if (not (flag_at old sector)) = ap (λ b. one_if (not b)) same in
                      omega (arith, none, here, there, join)
                  | inr past ↦ omega (arith, none, taken_in-past new sector (omega (arith, h.length, past)), taken_in-past old sector past)
                ]
          ]
    ]

-- and used ones that get free no longer do
taken-cleared : (old new : List Bool) (p : Place) (sector : ℕ) → IsRangeSet old new p.sector p.sectors true → AreAll old p.sector p.sectors false →
    taken_in old sector ≡ one_if (covers p p.top sector) + taken_in new sector
taken-cleared old new p sector h used =
    let back : IsRangeSet new old p.sector p.sectors false = record {
      length = sym h.length;
      within = used.each;
      before = λ k l. sym (h.before k l);
      after = λ k l. sym (h.after k l);
    } in
    taken-marked new old p sector back (record { fits = omega (arith, h.length, used.fits); each = h.within })

module _ (tops : List TopState) (p : Place) (x : TopState) (there : p.top < length tops) (lengths : x.lengths ≡ (top_at tops p.top).lengths) (long : length x.free ≡ length (top_at tops p.top).free) (unit : x.unit ≡ (top_at tops p.top).unit) where
  same_sizes : sizes_of (set tops p.top x) ≡ sizes_of tops
  same_sizes = sizes_of-set tops p.top x there (size_of-same x (top_at tops p.top) (ap length lengths) unit)

  same_lengths : (top : ℕ) → (top_at (set tops p.top x) top).lengths ≡ (top_at tops top).lengths
  same_lengths = each_top (λ t u. u.lengths ≡ t.lengths) (λ t. refl) tops p.top x there lengths

  same_long : (top : ℕ) → length (top_at (set tops p.top x) top).free ≡ length (top_at tops top).free
  same_long = each_top (λ t u. length u.free ≡ length t.free) (λ t. refl) tops p.top x there long

  still_even : HaveEqualLengths tops → HaveEqualLengths (set tops p.top x)
  still_even h = λ top. same_long top ∙ h top ∙ sym (ap length (same_lengths top))

  was_even : HaveEqualLengths (set tops p.top x) → HaveEqualLengths tops
  was_even h = λ top. sym (same_long top) ∙ h top ∙ ap length (same_lengths top)

  other_top : (top sector : ℕ) → top ≢ p.top → (covers p top sector ≡ false) × (taken_at (set tops p.top x) top sector ≡ taken_at tops top sector)
  other_top top sector n = (covers-not p top sector (λ a b c. n (sym a)), ap (λ (t : TopState). taken_in t.free sector) (top_at-other tops p.top top x n))

  this_top : (sector : ℕ) → taken_at (set tops p.top x) p.top sector ≡ taken_in x.free sector
  this_top sector = ap (λ (t : TopState). taken_in t.free sector) (top_at-set tops p.top x there)

pub IsMarkedUsed-marked : (tops : List TopState) (p : Place) (x : TopState) → HasFlags tops p true → IsRangeSet (top_at tops p.top).free x.free p.sector p.sectors false → x.lengths ≡ (top_at tops p.top).lengths → x.unit ≡ (top_at tops p.top).unit →
    IsMarkedUsed tops (set tops p.top x) p
IsMarkedUsed-marked tops p x room change lengths unit =
    let there = inside-top tops p true room in
    record {
      sizes = same_sizes tops p x there lengths change.length unit;
      even = still_even tops p x there lengths change.length unit;
      even_back = was_even tops p x there lengths change.length unit;
      lengths = same_lengths tops p x there lengths change.length unit;
      taken = λ top sector.
          elim (cases_eq top p.top) [
            | inl e ↦ subst (λ t. taken_at (set tops p.top x) t sector ≡ one_if (covers p t sector) + taken_at tops t sector) (sym e)
                (this_top tops p x there lengths change.length unit sector ∙ taken-marked (top_at tops p.top).free x.free p sector change room.flags)
            | inr n ↦ let o = other_top tops p x there lengths change.length unit top sector n in omega (arith, o.1, ap one_if o.0)
          ];
    }

pub IsMarkedUsed-cleared : (tops : List TopState) (p : Place) (x : TopState) → HasFlags tops p false → IsRangeSet (top_at tops p.top).free x.free p.sector p.sectors true → x.lengths ≡ (top_at tops p.top).lengths → x.unit ≡ (top_at tops p.top).unit →
    IsMarkedUsed (set tops p.top x) tops p
IsMarkedUsed-cleared tops p x used change lengths unit =
    let there = inside-top tops p false used in
    record {
      sizes = sym (same_sizes tops p x there lengths change.length unit);
      even = was_even tops p x there lengths change.length unit;
      even_back = still_even tops p x there lengths change.length unit;
      lengths = λ top. sym (same_lengths tops p x there lengths change.length unit top);
      taken = λ top sector.
          elim (cases_eq top p.top) [
            | inl e ↦ subst (λ t. taken_at tops t sector ≡ one_if (covers p t sector) + taken_at (set tops p.top x) t sector) (sym e)
                (taken-cleared (top_at tops p.top).free x.free p sector change used.flags ∙ ap (λ n. one_if (covers p p.top sector) + n) (sym (this_top tops p x there lengths change.length unit sector)))
            | inr n ↦ let o = other_top tops p x there lengths change.length unit top sector n in omega (arith, o.1, ap one_if o.0)
          ];
    }

-- ---- a length is written
total_here : (f : Place → ℕ) (p : Place) → 0 < p.sectors → total f (places_here p.top p.sector p.sectors) ≡ f p
total_here f p h = go p.sectors refl h where
  go : (n : ℕ) → n ≡ p.sectors → 0 < n → total f (places_here p.top p.sector n) ≡ f p
  go zero e h = absurd (omega arith)
  go (suc n) e h = add-zero (f (record { top = p.top; sector = p.sector; sectors = suc n })) ∙ ap (λ m. f (record { top = p.top; sector = p.sector; sectors = m })) e

pub inside-length : (tops : List TopState) (top sector : ℕ) → sector < length (top_at tops top).lengths → top < length tops
inside-length tops top sector h =
    elim (cases_lt top (length tops)) [
      | inl here ↦ here
      | inr past ↦
          let none : length (top_at tops top).lengths ≡ 0 = ap (λ (t : TopState). length t.lengths) (get_or_past tops top no_top past) in
          absurd (omega (arith, h, none))
    ]

pub length-inside : (tops : List TopState) (top sector : ℕ) → 0 < length_at tops top sector → sector < length (top_at tops top).lengths
length-inside tops top sector h =
    elim (cases_lt sector (length (top_at tops top).lengths)) [
      | inl here ↦ here
      | inr past ↦ absurd (omega (arith, h, get_or_past (top_at tops top).lengths sector 0 past))
    ]

pub IsEntered-entered : (tops : List TopState) (p : Place) (x : TopState) → 0 < p.sectors → p.sector < length (top_at tops p.top).lengths → length_at tops p.top p.sector ≡ 0 →
    x.lengths ≡ set (top_at tops p.top).lengths p.sector p.sectors → x.free ≡ (top_at tops p.top).free → x.unit ≡ (top_at tops p.top).unit → IsEntered tops (set tops p.top x) p
IsEntered-entered tops p x filled inside none lengths free unit =
    let there = inside-length tops p.top p.sector inside in
    let long : length x.lengths ≡ length (top_at tops p.top).lengths = ap length lengths ∙ length-set (top_at tops p.top).lengths p.sector p.sectors in
    record {
      sizes = sizes_of-set tops p.top x there (size_of-same x (top_at tops p.top) long unit);
      free = each_top (λ t u. u.free ≡ t.free) (λ t. refl) tops p.top x there free;
      lengths = each_top (λ t u. length u.lengths ≡ length t.lengths) (λ t. refl) tops p.top x there long;
      live = λ f.
          let change = total_set f tops p.top p.sector p.sectors x there inside lengths in
          let before : total f (places_here p.top p.sector (length_at tops p.top p.sector)) ≡ 0 = ap (λ n. total f (places_here p.top p.sector n)) none in
          omega (arith, change, before, total_here f p filled);
    }

pub IsEntered-removed : (tops : List TopState) (p : Place) (x : TopState) → 0 < p.sectors → length_at tops p.top p.sector ≡ p.sectors →
    x.lengths ≡ set (top_at tops p.top).lengths p.sector 0 → x.free ≡ (top_at tops p.top).free → x.unit ≡ (top_at tops p.top).unit → IsEntered (set tops p.top x) tops p
IsEntered-removed tops p x filled size lengths free unit =
    let inside = length-inside tops p.top p.sector (omega (arith, size, filled)) in
    let there = inside-length tops p.top p.sector inside in
    let long : length x.lengths ≡ length (top_at tops p.top).lengths = ap length lengths ∙ length-set (top_at tops p.top).lengths p.sector 0 in
    record {
      sizes = sym (sizes_of-set tops p.top x there (size_of-same x (top_at tops p.top) long unit));
      free = λ top. sym (each_top (λ t u. u.free ≡ t.free) (λ t. refl) tops p.top x there free top);
      lengths = λ top. sym (each_top (λ t u. length u.lengths ≡ length t.lengths) (λ t. refl) tops p.top x there long top);
      live = λ f.
          let change = total_set f tops p.top p.sector 0 x there inside lengths in
          let before : total f (places_here p.top p.sector (length_at tops p.top p.sector)) ≡ f p = ap (λ n. total f (places_here p.top p.sector n)) size ∙ total_here f p filled in
          omega (arith, change, before);
    }

-- Places held and released one after another, and what stays true of the tables.
use Rattle.std.proofs.Common.{◌≡◌, ℕ, suc, ◌+◌, ◌-◌, ◌<◌, ◌≤◌, List, [], ◌∷◌, ◌++◌, length, get_or, refl, sym, ap, subst, ◌∙◌, arith, zero-add}
use Rattle.std.specs.Prelude.{Bool, true, false, Contains}
use Rattle.std.proofs.Common.{inl, inr}
use Rattle.std.proofs.lemmas.Bool.{cases_eq, false≢true}
use Rattle.std.proofs.lemmas.List.{length-map, get_or_default}
use Rattle.zio_types.specs.declared.place.Place.{Place}
use Rattle.zio_types.specs.Places.{end_of}
use Rattle.zio_places.specs.Flags.{flag_at, AreAll}
use Rattle.zio_places.specs.Tables.{TopState, no_top, top_at, size_of, sizes_of, places_from, live_from, live_of, covers, one_if, total, taken_in, taken_at, length_at, AreConsistent, HasFlags, IsMarkedUsed, AreMarkedUsed, IsEntered, AreAllocated}
use Rattle.zio_places.proofs.PlaceLemmas.{total-append, covers-from, total-contains}
use Rattle.zio_places.proofs.TableLemmas.{live-length, length-live}
use Rattle.zio_places.proofs.ChangeLemmas.{taken_in-one}

-- ---- the tables stay kept
pub AreConsistent-allocate : (old new : List TopState) (places : List Place) → AreAllocated old new places → AreConsistent old → AreConsistent new
AreConsistent-allocate old new places h kept = record {
  even = h.even kept.even;
  covered = λ top sector.
      let live = h.live (λ p. one_if (covers p top sector)) in
      omega (arith, live, h.taken top sector, kept.covered top sector);
}

pub AreConsistent-release : (old new : List TopState) (places : List Place) → AreAllocated old new places → AreConsistent new → AreConsistent old
AreConsistent-release old new places h kept = record {
  even = h.even_back kept.even;
  covered = λ top sector.
      let live = h.live (λ p. one_if (covers p top sector)) in
      omega (arith, live, h.taken top sector, kept.covered top sector);
}

-- ---- one change after another
live_from-same : (top : ℕ) (a b : List TopState) → ((k : ℕ) → (top_at b k).lengths ≡ (top_at a k).lengths) → length b ≡ length a → live_from top b ≡ live_from top a
live_from-same top [] [] h n = refl
live_from-same top [] (y ∷ b) h n = absurd (omega (arith, n))
live_from-same top (x ∷ a) [] h n = absurd (omega (arith, n))
live_from-same top (x ∷ a) (y ∷ b) h n =
    let first : y.lengths ≡ x.lengths = h 0 in
    let rest : live_from (top + 1) b ≡ live_from (top + 1) a = live_from-same (top + 1) a b (λ k. h (suc k)) (omega (arith, n)) in
    ap (λ ls. places_from top 0 ls ++ live_from (top + 1) b) first ∙ ap (λ ps. places_from top 0 x.lengths ++ ps) rest

-- tables of the same lengths have the same live places
pub live_of-same : (a b : List TopState) → ((top : ℕ) → (top_at b top).lengths ≡ (top_at a top).lengths) → sizes_of b ≡ sizes_of a → live_of b ≡ live_of a
live_of-same a b h s =
    live_from-same 0 a b h (sym (length-map b size_of) ∙ ap length s ∙ length-map a size_of)

pub AreAllocated-nothing : (tops : List TopState) → AreAllocated tops tops []
AreAllocated-nothing tops = record {
  sizes = refl;
  even = λ h. h;
  even_back = λ h. h;
  live = λ f. sym (zero-add (total f (live_of tops)));
  taken = λ top sector. sym (zero-add (taken_at tops top sector));
}

pub AreAllocated-then : (a b c : List TopState) (xs ys : List Place) → AreAllocated a b xs → AreAllocated b c ys → AreAllocated a c (xs ++ ys)
AreAllocated-then a b c xs ys h k = record {
  sizes = k.sizes ∙ h.sizes;
  even = λ e. k.even (h.even e);
  even_back = λ e. h.even_back (k.even_back e);
  live = λ f. omega (arith, h.live f, k.live f, total-append f xs ys);
  taken = λ top sector. omega (arith, h.taken top sector, k.taken top sector, total-append (λ p. one_if (covers p top sector)) xs ys);
}

pub AreAllocated-before : (a b c : List TopState) (xs ys : List Place) → AreAllocated a b xs → AreAllocated b c ys → AreAllocated a c (ys ++ xs)
AreAllocated-before a b c xs ys h k = record {
  sizes = k.sizes ∙ h.sizes;
  even = λ e. k.even (h.even e);
  even_back = λ e. h.even_back (k.even_back e);
  live = λ f. omega (arith, h.live f, k.live f, total-append f ys xs);
  taken = λ top sector. omega (arith, h.taken top sector, k.taken top sector, total-append (λ p. one_if (covers p top sector)) ys xs);
}

-- what was held from one state to two is the same there
pub AreAllocated-same : (a b c : List TopState) (xs : List Place) → AreAllocated a b xs → AreAllocated c b xs → AreAllocated a c []
AreAllocated-same a b c xs h k = record {
  sizes = sym k.sizes ∙ h.sizes;
  even = λ e. k.even_back (h.even e);
  even_back = λ e. h.even_back (k.even e);
  live = λ f. omega (arith, h.live f, k.live f);
  taken = λ top sector. omega (arith, h.taken top sector, k.taken top sector);
}

pub AreAllocated-one : (a b c : List TopState) (p : Place) → IsMarkedUsed a b p → IsEntered b c p → AreAllocated a c (p ∷ [])
AreAllocated-one a b c p used live = record {
  sizes = live.sizes ∙ used.sizes;
  even = λ e top. ap length (live.free top) ∙ used.even e top ∙ sym (live.lengths top);
  even_back = λ e. used.even_back (λ top. sym (ap length (live.free top)) ∙ e top ∙ live.lengths top);
  live = λ f.
      let same : total f (live_of b) ≡ total f (live_of a) = ap (total f) (live_of-same a b used.lengths used.sizes) in
      omega (arith, live.live f, same);
  taken = λ top sector.
      let same : taken_at c top sector ≡ taken_at b top sector = ap (λ fs. taken_in fs sector) (live.free top) in
      omega (arith, same, used.taken top sector);
}

-- ---- what is known of a live place, and of free sectors
pub live-flags : (tops : List TopState) (p : Place) → AreConsistent tops → Contains (live_of tops) p → HasFlags tops p false
live-flags tops p kept h =
    let filled = (live-length tops p h).0 in
    let taken : (sector : ℕ) → p.sector ≤ sector → sector < end_of p → 0 < taken_at tops p.top sector = λ sector a b.
    let one : one_if (covers p p.top sector) ≡ 1 = ap one_if (covers-from p p.top sector refl a b) in
    omega (arith, one, total-contains (λ q. one_if (covers q p.top sector)) (live_of tops) p h, kept.covered p.top sector) in
    let last = taken_in-one (top_at tops p.top).free (p.sector + p.sectors - 1) (taken (p.sector + p.sectors - 1) (omega arith) (omega arith)) in
    record {
      filled = filled;
      flags = record { fits = omega (arith, last.0); each = λ k a b. (taken_in-one (top_at tops p.top).free k (taken k a b)).1 };
    }

pub free-unheld : (tops : List TopState) (p : Place) → AreConsistent tops → HasFlags tops p true → length_at tops p.top p.sector ≡ 0
free-unheld tops p kept room =
    elim (cases_eq (length_at tops p.top p.sector) 0) [
      | inl none ↦ none
      | inr some ↦
          let q : Place = record { top = p.top; sector = p.sector; sectors = length_at tops p.top p.sector } in
          let live = length-live tops q (omega (arith, some)) refl in
          let used = live-flags tops q kept live in
          let off : flag_at (top_at tops p.top).free p.sector ≡ false = used.flags.each p.sector (omega arith) (omega (arith, used.filled)) in
          let on : flag_at (top_at tops p.top).free p.sector ≡ true = room.flags.each p.sector (omega arith) (omega (arith, room.filled)) in
          absurd (false≢true (sym off ∙ on))
    ]

pub HasFlags-free : (a b : List TopState) (p : Place) (flag : Bool) → (top_at b p.top).free ≡ (top_at a p.top).free → HasFlags a p flag → HasFlags b p flag
HasFlags-free a b p flag e h = record { filled = h.filled; flags = subst (λ fs. AreAll fs p.sector p.sectors flag) (sym e) h.flags }

-- what is read at an index is the top there
pub top_read : (tops : List TopState) (top : ℕ) (t : TopState) → top < length tops → get_or tops top t ≡ top_at tops top
top_read tops top t here = get_or_default tops top t no_top here

-- ---- sectors that get free one place after another
pub AreMarkedUsed-nothing : (tops : List TopState) → AreMarkedUsed tops tops []
AreMarkedUsed-nothing tops = record {
  sizes = refl;
  even = λ h. h;
  even_back = λ h. h;
  lengths = λ top. refl;
  taken = λ top sector. sym (zero-add (taken_at tops top sector));
}

pub AreMarkedUsed-before : (a b c : List TopState) (p : Place) (xs : List Place) → IsMarkedUsed a b p → AreMarkedUsed b c xs → AreMarkedUsed a c (xs ++ p ∷ [])
AreMarkedUsed-before a b c p xs h k = record {
  sizes = k.sizes ∙ h.sizes;
  even = λ e. k.even (h.even e);
  even_back = λ e. h.even_back (k.even_back e);
  lengths = λ top. k.lengths top ∙ h.lengths top;
  taken = λ top sector. omega (arith, h.taken top sector, k.taken top sector, total-append (λ q. one_if (covers q top sector)) xs (p ∷ []));
}

-- a place whose sectors all count has them used
pub taken-flags : (tops : List TopState) (p : Place) → 0 < p.sectors → ((sector : ℕ) → covers p p.top sector ≡ true → 0 < taken_at tops p.top sector) → HasFlags tops p false
taken-flags tops p filled taken =
    let used : (k : ℕ) → p.sector ≤ k → k < end_of p → (k < length (top_at tops p.top).free) × (flag_at (top_at tops p.top).free k ≡ false) =
    λ k a b. taken_in-one (top_at tops p.top).free k (taken k (covers-from p p.top k refl a b)) in
    let last = used (p.sector + p.sectors - 1) (omega arith) (omega arith) in
    record {
      filled = filled;
      flags = record { fits = omega (arith, last.0); each = λ k a b. (used k a b).1 };
    }

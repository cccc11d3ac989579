-- A place that the tables give is one that the law of a choice allows.
use Rattle.std.proofs.Common.{◌≡◌, ℕ, zero, suc, ◌+◌, ◌-◌, ◌*◌, ◌/◌, ◌<◌, ◌≤◌, List, [], ◌∷◌, ◌++◌, length, set, take, replicate, refl, sym, ap, subst, ◌∙◌, arith}
use Rattle.std.specs.Prelude.{Bool, true, ◌&&◌, Option, Some, None, is_some, MatchOption, IsTrue, ◌↔◌}
use Rattle.std.proofs.Common.{inl, inr}
use Rattle.std.proofs.lemmas.Bool.{cases_Bool, and_parts, and_from, false≢true, false_from_ne_true}
use Rattle.std.proofs.Math.Nat.{div-eq_of_lt}
use Rattle.std.proofs.lemmas.List.{append_assoc, append-nil, take_at, set_at, length_push}
use Rattle.zio_types.specs.declared.place.Place.{Place}
use Rattle.zio_types.specs.declared.place.TopSize.{TopSize}
use Rattle.zio_types.specs.Places.{is_inside, is_aligned, is_free, fits_size, rounded_to, HasRun, IsNextCopy, AreCopies}
use Rattle.zio_types.specs.Choices.{no_place}
use Rattle.zio_types.specs.Filled.{IsFilled, length-take-filled}
use Rattle.zio_places.specs.Flags.{best_run}
use Rattle.zio_places.specs.Spaces.{is_on_top}
use Rattle.zio_places.specs.Tables.{TopState, top_at, sizes_of, whole_units, AreAligned, AreBitmapsOf, HaveEqualLengths, HasFlags, IsRoom, IsFound, NoneHasRoom}
use Rattle.zio_places.proofs.FlagLemmas.{best_run-most}
use Rattle.zio_places.proofs.ChangeLemmas.{HasFlags-top}
use Rattle.zio_places.proofs.UnitLemmas.{fits-parts, fits-from, start-aligned}
use Rattle.zio_places.proofs.CountLemmas.{is_free-from_flags, flags-from_is_free, inside-parts, inside-from_flags}

-- a top has no free run for a size that is longer than its best one
pub no_run : (used : List Place) (tops : List TopState) (top size : ℕ) → AreBitmapsOf used tops → HaveEqualLengths tops → (top < length tops → best_run (top_at tops top).free < whole_units tops top (size / 512)) →
    HasRun (sizes_of tops) used top size → ⊥
no_run used tops top size count even less run =
    let p = run.place in
    let there = flags-from_is_free used tops p count even run.inside run.free in
    let fits = fits-parts tops size p run.fits in
    let most : p.sectors ≤ best_run (top_at tops p.top).free = best_run-most (top_at tops p.top).free p.sector p.sectors there.flags.each in
    let short : best_run (top_at tops p.top).free < whole_units tops p.top (size / 512) =
    subst (λ t. t < length tops → best_run (top_at tops t).free < whole_units tops t (size / 512)) (sym run.there) less fits.there in
    omega (arith, short, most, fits.sectors)

-- a top has one where a free place of that length begins at its beginning or behind a used sector
pub room_run : (used : List Place) (sizes : List TopSize) (tops : List TopState) (size : ℕ) (p : Place) → sizes_of tops ≡ sizes → AreBitmapsOf used tops → AreAligned sizes used → HaveEqualLengths tops → IsRoom tops (size / 512) p →
    HasRun sizes used p.top size
room_run used sizes tops size p same count aligned even found =
    let room : HasFlags tops p true = record { filled = found.filled; flags = found.run.all } in
    let whole = start-aligned used tops p count (subst (λ s. AreAligned s used) (sym same) aligned) room found.run.start in
    record {
      place = p;
      there = refl;
      fits = ap (λ s. fits_size s size p) (sym same) ∙ fits-from tops size p (record { there = HasFlags-top tops p true room; sector = whole; sectors = found.length });
      inside = ap (λ s. is_inside s p) (sym same) ∙ inside-from_flags tops p true even room;
      free = is_free-from_flags used tops p count room;
    }

rounded-none : (unit : ℕ) → rounded_to unit 0 ≡ 0
rounded-none zero = omega arith
rounded-none (suc u) =
    let none : (0 + (suc u - 1)) / suc u ≡ 0 = div-eq_of_lt (omega arith) in
    ap (λ n. n * suc u) none ∙ omega arith

-- a size of no whole sector has no place
pub no_sectors-run : (used : List Place) (tops : List TopState) (top size : ℕ) → size / 512 ≡ 0 → HasRun (sizes_of tops) used top size → ⊥
no_sectors-run used tops top size none run =
    let p = run.place in
    let fits = fits-parts tops size p run.fits in
    let unit = (top_at tops p.top).unit in
    let filled = (inside-parts tops p run.inside).0 in
    let short : rounded_to unit (size / 512) ≡ 0 = ap (rounded_to unit) none ∙ rounded-none unit in
    omega (arith, fits.sectors, short, filled)

-- a top that has a run is there
pub run-there : (used : List Place) (tops : List TopState) (top size : ℕ) → HasRun (sizes_of tops) used top size → top < length tops
run-there used tops top size run =
    let fits = fits-parts tops size run.place run.fits in
    omega (arith, run.there, fits.there)

-- what a search for room finds tells whether there is a run, on some top and on one
pub found-run : (used : List Place) (tops : List TopState) (size : ℕ) (found : Option Place) (t : Bool) → t ≡ is_some found → AreBitmapsOf used tops → AreAligned (sizes_of tops) used → HaveEqualLengths tops →
    MatchOption found (NoneHasRoom tops (size / 512)) (IsRoom tops (size / 512)) → IsTrue t ↔ ((top : ℕ) × HasRun (sizes_of tops) used top size)
found-run used tops size None t is count aligned even none = (
  (λ on. absurd (false≢true (sym is ∙ on))),
  (λ run. absurd (no_run used tops run.0 size count even (none run.0) run.1)),
)
found-run used tops size (Some p) t is count aligned even room = ((λ on. (p.top, room_run used (sizes_of tops) tops size p refl count aligned even room)), (λ run. is))

pub found-run_on : (used : List Place) (tops : List TopState) (top size : ℕ) (found : Option Place) (t : Bool) → t ≡ is_some found → AreBitmapsOf used tops → AreAligned (sizes_of tops) used → HaveEqualLengths tops →
    MatchOption found (best_run (top_at tops top).free < whole_units tops top (size / 512)) (λ p. IsRoom tops (size / 512) p × (p.top ≡ top)) → IsTrue t ↔ HasRun (sizes_of tops) used top size
found-run_on used tops top size None t is count aligned even none = (
  (λ on. absurd (false≢true (sym is ∙ on))),
  (λ run. absurd (no_run used tops top size count even (λ there. none) run)),
)
found-run_on used tops top size (Some p) t is count aligned even room = (
  (λ on. subst (λ k. HasRun (sizes_of tops) used k size) room.1 (room_run used (sizes_of tops) tops size p refl count aligned even room.0)),
  (λ run. is),
)

-- what the flags say of a place on its top
pub open-test : (used : List Place) (tops : List TopState) (p : Place) (t : Bool) → AreBitmapsOf used tops → HaveEqualLengths tops → is_on_top (sizes_of tops) p ≡ true → (IsTrue t ↔ HasFlags tops p true) →
    t ≡ (is_on_top (sizes_of tops) p && is_free used p)
open-test used tops p t count even on h =
    elim (cases_Bool t) [
      | inl free ↦ free ∙ sym (and_from (is_on_top (sizes_of tops) p) (is_free used p) on (is_free-from_flags used tops p count (h.0 free)))
      | inr taken ↦
          let inside = (and_parts (is_inside (sizes_of tops) p) (is_aligned (sizes_of tops) p) on).0 in
          taken ∙ sym (false_from_ne_true (is_on_top (sizes_of tops) p && is_free used p) (λ both.
          let free = (and_parts (is_on_top (sizes_of tops) p) (is_free used p) both).1 in
          false≢true (sym taken ∙ h.1 (flags-from_is_free used tops p count even inside free))))
    ]

pub found-next : (used earlier : List Place) (sizes : List TopSize) (tops : List TopState) (size : ℕ) (p : Place) → sizes_of tops ≡ sizes → AreBitmapsOf (earlier ++ used) tops → AreAligned sizes (earlier ++ used) →
    HaveEqualLengths tops → IsFound tops earlier (size / 512) p → IsNextCopy sizes used size earlier p
found-next used earlier sizes tops size p same count aligned even found =
    let room : HasFlags tops p true = record { filled = found.room.filled; flags = found.room.run.all } in
    let whole = start-aligned (earlier ++ used) tops p count (subst (λ s. AreAligned s (earlier ++ used)) (sym same) aligned) room found.room.run.start in
    record {
      fits = ap (λ s. fits_size s size p) (sym same) ∙ fits-from tops size p (record { there = HasFlags-top tops p true room; sector = whole; sectors = found.room.length });
      inside = ap (λ s. is_inside s p) (sym same) ∙ inside-from_flags tops p true even room;
      free = is_free-from_flags (earlier ++ used) tops p count room;
      spread = λ uses top fresh run.
          no_run (earlier ++ used) tops top size count even (λ there. found.spread uses top there fresh) (subst (λ s. HasRun s (earlier ++ used) top size) (sym same) run);
    }

pub none-refused : (used earlier : List Place) (sizes : List TopSize) (tops : List TopState) (size : ℕ) → sizes_of tops ≡ sizes → AreBitmapsOf (earlier ++ used) tops → HaveEqualLengths tops → NoneHasRoom tops (size / 512) →
    (top : ℕ) → HasRun sizes (earlier ++ used) top size → ⊥
none-refused used earlier sizes tops size same count even none top run =
    no_run (earlier ++ used) tops top size count even (none top) (subst (λ s. HasRun s (earlier ++ used) top size) (sym same) run)

-- one copy more
pub AreCopies-push : (sizes : List TopSize) (used : List Place) (n : ℕ) (earlier xs : List Place) (p : Place) → AreCopies sizes used n earlier xs → IsNextCopy sizes used n (earlier ++ xs) p → AreCopies sizes used n earlier (xs ++ p ∷ [])
AreCopies-push sizes used n earlier [] p h next = (subst (λ e. IsNextCopy sizes used n e p) (append-nil earlier) next, tt)
AreCopies-push sizes used n earlier (x ∷ xs) p h next =
    (h.0, AreCopies-push sizes used n (earlier ++ x ∷ []) xs p h.1 (subst (λ e. IsNextCopy sizes used n e p) (sym (append_assoc earlier (x ∷ []) xs)) next))

-- one item more in an array that is used from its front
set-replicate : (xs : List Place) (m : ℕ) (p : Place) → set (xs ++ replicate (suc m) no_place) (length xs) p ≡ (xs ++ p ∷ []) ++ replicate m no_place
set-replicate xs m p = set_at xs no_place (replicate m no_place) p (length xs) refl ∙ sym (append_assoc xs (p ∷ []) (replicate m no_place))

pub filled-push : (len used : ℕ) (items : List Place) (p : Place) → used < len → IsFilled no_place len used items →
    IsFilled no_place len (used + 1) (set items used p) × (take (used + 1) (set items used p) ≡ take used items ++ p ∷ [])
filled-push len used items p room h =
    let xs : List Place = take used items in
    let long : length xs ≡ used = length-take-filled no_place len used items h in
    let left : len - length xs ≡ suc (len - (used + 1)) = omega (arith, long) in
    let split : items ≡ xs ++ replicate (suc (len - (used + 1))) no_place = h.rest ∙ ap (λ m. xs ++ replicate m no_place) left in
    let written : set items used p ≡ (xs ++ p ∷ []) ++ replicate (len - (used + 1)) no_place =
    ap (λ ys. set ys used p) split ∙ ap (λ k. set (xs ++ replicate (suc (len - (used + 1))) no_place) k p) (sym long) ∙ set-replicate xs (len - (used + 1)) p in
    let longer : length (xs ++ p ∷ []) ≡ used + 1 = length_push xs p ∙ ap (λ n. n + 1) long in
    let taken : take (used + 1) (set items used p) ≡ xs ++ p ∷ [] = ap (take (used + 1)) written ∙ take_at (xs ++ p ∷ []) (replicate (len - (used + 1)) no_place) (used + 1) longer in (
      record {
        fits = omega arith;
        rest =
            written ∙ ap (λ m. (xs ++ p ∷ []) ++ replicate (len - m) no_place) (sym longer)
            ∙ ap (λ ys. ys ++ replicate (len - length ys) no_place) (sym taken);
      },
      taken,
    )

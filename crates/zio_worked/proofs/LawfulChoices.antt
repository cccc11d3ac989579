-- A test by which choices are shown to be lawful.
use Rattle.std.proofs.Common.{◌≡◌, ℕ, ◌<◌, List, [], ◌∷◌, ◌++◌, length, Bool, true, false, ◌&&◌, ◌||◌, not, nat_le, ⊎_elim, arith, refl, leb-true}
use Rattle.std.proofs.lemmas.Bool.{both_ways, and_parts, or_cases, not-true}
use Rattle.zio_types.specs.declared.place.Place.{Place}
use Rattle.zio_types.specs.declared.place.TopSize.{TopSize}
use Rattle.zio_types.specs.Choices.{Choice}
use Rattle.zio_types.specs.Places.{HasRun, IsNextCopy, AreCopies, IsLawfulChoice, is_inside, is_free, fits_size, uses_top}
use Rattle.zio_gang.specs.Journals.{AreLawful, taken_by}
use Rattle.zio_worked.proofs.FreeRuns.{has_room, no_room}

-- ---- copies

-- the copy's top is new, or no top without a copy has room
abbrev pub is_spread : List TopSize → List Place → ℕ → List Place → Place → Bool
is_spread tops used size earlier p =
    not (uses_top earlier p.top) || not (has_room tops (earlier ++ used) size (uses_top earlier))

abbrev pub is_next_copy : List TopSize → List Place → ℕ → List Place → Place → Bool
is_next_copy tops used size earlier p =
    fits_size tops size p
    && (is_inside tops p && (is_free (earlier ++ used) p && is_spread tops used size earlier p))

abbrev pub are_copies : List TopSize → List Place → ℕ → List Place → List Place → Bool
are_copies tops used size earlier [] = true
are_copies tops used size earlier (p ∷ ps) =
    is_next_copy tops used size earlier p && are_copies tops used size (earlier ++ p ∷ []) ps

spread : (tops : List TopSize) (used : List Place) (size : ℕ) (earlier : List Place) (p : Place) → is_spread tops used size earlier p ≡ true → uses_top earlier p.top ≡ true → (top : ℕ) → uses_top earlier top ≡ false → ¬ HasRun tops (earlier ++ used) top size
spread tops used size earlier p e again =
    ⊎_elim (λ new. absurd (both_ways _ (not-true _ new) again))
    (λ full. no_room tops (earlier ++ used) size (uses_top earlier) (not-true _ full)) (or_cases _ _ e)

next_copy : (tops : List TopSize) (used : List Place) (size : ℕ) (earlier : List Place) (p : Place) → is_next_copy tops used size earlier p ≡ true → IsNextCopy tops used size earlier p
next_copy tops used size earlier p e =
    let long = and_parts (fits_size tops size p) _ e in
    let within = and_parts (is_inside tops p) _ long.1 in
    let apart = and_parts (is_free (earlier ++ used) p) _ within.1 in
    record {
      fits = long.0;
      inside = within.0;
      free = apart.0;
      spread = spread tops used size earlier p apart.1;
    }

copies : (tops : List TopSize) (used : List Place) (size : ℕ) (earlier ps : List Place) → are_copies tops used size earlier ps ≡ true → AreCopies tops used size earlier ps
copies tops used size earlier [] e = tt
copies tops used size earlier (p ∷ ps) e =
    let parts = and_parts (is_next_copy tops used size earlier p) _ e in
    (next_copy tops used size earlier p parts.0, copies tops used size (earlier ++ p ∷ []) ps parts.1)

-- ---- choices

-- every copy has a place, or no top has room
abbrev pub is_whole_or_full : List TopSize → List Place → Choice → Bool
is_whole_or_full tops used c =
    nat_le c.asked.copies (length c.places)
    || not (has_room tops (c.places ++ used) c.asked.size (λ top. false))

abbrev pub is_lawful : List TopSize → List Place → Choice → Bool
is_lawful tops used c =
    nat_le (length c.places) c.asked.copies
    && (are_copies tops used c.asked.size [] c.places && is_whole_or_full tops used c)

abbrev pub are_lawful : List TopSize → List Place → List Choice → Bool
are_lawful tops used [] = true
are_lawful tops used (c ∷ cs) = is_lawful tops used c && are_lawful tops (taken_by c ++ used) cs

refused : (tops : List TopSize) (used : List Place) (c : Choice) → is_whole_or_full tops used c ≡ true → length c.places < c.asked.copies → (top : ℕ) → ¬ HasRun tops (c.places ++ used) top c.asked.size
refused tops used c e fewer top =
    ⊎_elim (λ whole. let enough = leb-true c.asked.copies (length c.places) whole in absurd (omega (arith, enough, fewer)))
    (λ full. no_room tops (c.places ++ used) c.asked.size (λ t. false) (not-true _ full) top refl)
    (or_cases (nat_le c.asked.copies (length c.places)) _ e)

lawful : (tops : List TopSize) (used : List Place) (c : Choice) → is_lawful tops used c ≡ true → IsLawfulChoice tops used c
lawful tops used c e =
    let few = and_parts (nat_le (length c.places) c.asked.copies) _ e in
    let both = and_parts (are_copies tops used c.asked.size [] c.places) _ few.1 in
    record {
      found = leb-true _ _ few.0;
      copies = copies tops used c.asked.size [] c.places both.0;
      refused = refused tops used c both.1;
    }

-- choices that pass the test are lawful
pub are_lawful-sound : (tops : List TopSize) (used : List Place) (cs : List Choice) → are_lawful tops used cs ≡ true → AreLawful tops used cs
are_lawful-sound tops used [] e = tt
are_lawful-sound tops used (c ∷ cs) e =
    let parts = and_parts (is_lawful tops used c) _ e in
    (lawful tops used c parts.0, are_lawful-sound tops (taken_by c ++ used) cs parts.1)

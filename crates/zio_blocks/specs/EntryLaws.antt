-- What lawful entries meet one after another: others behind them are lawful too, each was found, and what they take is
-- open, free beside the places that were in use and apart.
use Rattle.std.proofs.Common.{◌≡◌, ℕ, List, [], ◌∷◌, ◌++◌, inl, inr, append_assoc, refl, sym, ap, ◌∙◌}
use Rattle.std.specs.Prelude.{Bool, true, false, cond}
use Rattle.std.specs.List.{AllByRecursion}
use Rattle.std.proofs.lemmas.List.{append-nil}
use Rattle.std.proofs.lemmas.List.Elements.{Contains-append_cases, Contains-append_left, Contains-append_right}
use Rattle.zio_types.specs.declared.place.Place.{Place}
use Rattle.zio_types.specs.declared.place.TopSize.{TopSize}
use Rattle.zio_types.specs.Choices.{Choice, is_refused, taken_by}
use Rattle.zio_types.specs.Places.{AreCopies, SamePlaces, are_open, is_free}
use Rattle.zio_places.proofs.CountLemmas.{are_open-push}
use Rattle.zio_gang.specs.Journals.{AreLawful}
use Rattle.zio_blocks.specs.Choosers.{IsFound, IsFoundEntry, taken_by_all}
use Rattle.zio_cksum.proofs.PlaceSets.{SamePlaces-back, SamePlaces-behind, SamePlaces-then, free_same, lawful_same}

-- places in another order
pub SamePlaces-swap : (a b u : List Place) → SamePlaces (b ++ (a ++ u)) ((a ++ b) ++ u)
SamePlaces-swap a b u p = (
  (λ h. elim (Contains-append_cases b (a ++ u) p h) [
    | inl x ↦ Contains-append_left (a ++ b) u p (Contains-append_right a b p x)
    | inr y ↦ elim (Contains-append_cases a u p y) [
      | inl z ↦ Contains-append_left (a ++ b) u p (Contains-append_left a b p z)
      | inr z ↦ Contains-append_right (a ++ b) u p z
    ]
  ]),
  (λ h. elim (Contains-append_cases (a ++ b) u p h) [
    | inl x ↦ elim (Contains-append_cases a b p x) [
      | inl z ↦ Contains-append_right b (a ++ u) p (Contains-append_left a u p z)
      | inr z ↦ Contains-append_left b (a ++ u) p z
    ]
    | inr y ↦ Contains-append_right b (a ++ u) p (Contains-append_right a u p y)
  ]),
)

pub are_lawful_same : (sizes : List TopSize) (xs ys : List Place) (es : List Choice) → SamePlaces xs ys → AreLawful sizes xs es → AreLawful sizes ys es
are_lawful_same sizes xs ys [] same h = tt
are_lawful_same sizes xs ys (e ∷ es) same h =
    (lawful_same sizes xs ys e same h.0, are_lawful_same sizes (taken_by e ++ xs) (taken_by e ++ ys) es (SamePlaces-behind xs ys (taken_by e) same) h.1)

pub lawful_then : (sizes : List TopSize) (used now : List Place) (es fs : List Choice) → AreLawful sizes used es → SamePlaces now (taken_by_all es ++ used) → AreLawful sizes now fs
    → AreLawful sizes used (es ++ fs)
lawful_then sizes used now [] fs h same k = are_lawful_same sizes now used fs same k
lawful_then sizes used now (e ∷ es) fs h same k = (
  h.0,
  lawful_then sizes (taken_by e ++ used) now es fs h.1
      (SamePlaces-then now ((taken_by e ++ taken_by_all es) ++ used) (taken_by_all es ++ (taken_by e ++ used)) same
      (SamePlaces-back (taken_by_all es ++ (taken_by e ++ used)) ((taken_by e ++ taken_by_all es) ++ used) (SamePlaces-swap (taken_by e) (taken_by_all es) used))) k,
)

-- ---- what was found

found_each : (tops : List TopSize) (used : List Place) (size : ℕ) (earlier places : List Place) → AreCopies tops used size earlier places → AllByRecursion (IsFound tops size) places
found_each tops used size earlier [] h = tt
found_each tops used size earlier (p ∷ places) h = (record { fits = h.0.fits; inside = h.0.inside }, found_each tops used size (earlier ++ p ∷ []) places h.1)

pub found_all : (tops : List TopSize) (used : List Place) (es : List Choice) → AreLawful tops used es → AllByRecursion (IsFoundEntry tops) es
found_all tops used [] lawful = tt
found_all tops used (e ∷ es) lawful = (
  record { most = lawful.0.found; each = found_each tops used e.asked.size [] e.places lawful.0.copies },
  found_all tops (taken_by e ++ used) es lawful.1,
)

-- ---- what is open

-- beside places that are in use now: those in use at first, and those that were taken since
copies_open : (tops : List TopSize) (first now done : List Place) (size : ℕ) (earlier places : List Place) → SamePlaces now (done ++ first) → are_open first (done ++ earlier) ≡ true
    → AreCopies tops now size earlier places → are_open first (done ++ (earlier ++ places)) ≡ true
copies_open tops first now done size earlier [] same h copies = ap (λ (ps : List Place). are_open first (done ++ ps)) (append-nil earlier) ∙ h
copies_open tops first now done size earlier (p ∷ places) same h copies =
    let there : SamePlaces (earlier ++ now) ((done ++ earlier) ++ first) =
    SamePlaces-then (earlier ++ now) (earlier ++ (done ++ first)) ((done ++ earlier) ++ first) (SamePlaces-behind now (done ++ first) earlier same) (SamePlaces-swap done earlier first) in
    let free : is_free ((done ++ earlier) ++ first) p ≡ true = free_same (earlier ++ now) ((done ++ earlier) ++ first) p there copies.0.free in
    let more : are_open first (done ++ (earlier ++ p ∷ [])) ≡ true =
    ap (are_open first) (sym (append_assoc done earlier (p ∷ []))) ∙ are_open-push first (done ++ earlier) p h free in
    ap (λ (ps : List Place). are_open first (done ++ ps)) (sym (append_assoc earlier (p ∷ []) places))
    ∙ copies_open tops first now done size (earlier ++ p ∷ []) places same more copies.1

taken_if : (t : Bool) (first done places : List Place) → are_open first done ≡ true → are_open first (done ++ places) ≡ true → are_open first (done ++ cond t [] places) ≡ true
taken_if true first done places h k = ap (are_open first) (append-nil done) ∙ h
taken_if false first done places h k = k

entries_open : (tops : List TopSize) (first now done : List Place) (es : List Choice) → SamePlaces now (done ++ first) → are_open first done ≡ true → AreLawful tops now es
    → are_open first (done ++ taken_by_all es) ≡ true
entries_open tops first now done [] same h lawful = ap (are_open first) (append-nil done) ∙ h
entries_open tops first now done (e ∷ es) same h lawful =
    let took : List Place = taken_by e in
    let one : are_open first (done ++ took) ≡ true =
    taken_if (is_refused e) first done e.places h
    (copies_open tops first now done e.asked.size [] e.places same (ap (are_open first) (append-nil done) ∙ h) lawful.0.copies) in
    let then : SamePlaces (took ++ now) ((done ++ took) ++ first) =
    SamePlaces-then (took ++ now) (took ++ (done ++ first)) ((done ++ took) ++ first) (SamePlaces-behind now (done ++ first) took same) (SamePlaces-swap done took first) in
    ap (are_open first) (sym (append_assoc done took (taken_by_all es)))
    ∙ entries_open tops first (took ++ now) (done ++ took) es then one lawful.1

same_itself : (xs : List Place) → SamePlaces xs xs
same_itself xs p = (λ h. h, λ h. h)

pub taken_open : (tops : List TopSize) (used : List Place) (es : List Choice) → AreLawful tops used es → are_open used (taken_by_all es) ≡ true
taken_open tops used es lawful = entries_open tops used used [] es (same_itself used) refl lawful

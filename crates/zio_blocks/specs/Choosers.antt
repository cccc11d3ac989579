-- What a chooser of places holds, and what its calls change of that.
use Rattle.std.specs.Prelude.{◌≡◌, ◌≤◌, ℕ, List, [], ◌++◌, drop, length, true, Contains, IsTrue, ◌↔◌}
use Rattle.std.specs.List.{AllByRecursion, flat_map}
use Rattle.zio_types.specs.declared.place.Place.{Place}
use Rattle.zio_types.specs.declared.place.TopSize.{TopSize}
use Rattle.zio_types.specs.Choices.{Choice, taken_by}
use Rattle.zio_types.specs.Places.{SamePlaces, are_apart, are_open, fits_size, is_inside}
use Rattle.zio_places.specs.Spaces.{are_on_tops}

-- The places in use lie on their tops and no two of them meet, and each live place is one of them.
pub record AreHeld (sizes : List TopSize) (used live : List Place) : Type 0 where
  pub inside : are_on_tops sizes used ≡ true
  pub apart : are_apart used ≡ true
  pub live_apart : are_apart live ≡ true
  pub among : (p : Place) → Contains live p → Contains used p

-- what is left are the places of the first list that aren't among the given ones
abbrev pub AreLeft : List Place → List Place → List Place → Type 0
AreLeft held given left = (p : Place) → Contains left p ↔ (Contains held p × ¬ Contains given p)

-- the places that some entries took
abbrev pub taken_by_all : List Choice → List Place
taken_by_all entries = flat_map taken_by entries

-- the entries that were given since those of the first list
abbrev pub given_since : List Choice → List Choice → List Choice
given_since old new = drop (length old) new

-- a place that may hold a copy of this size: it fits the size, and lies inside its top
pub record IsFound (tops : List TopSize) (size : ℕ) (p : Place) : Type 0 where
  pub fits : IsTrue (fits_size tops size p)
  pub inside : IsTrue (is_inside tops p)

-- What each entry is: it has a place for each copy at most, and each may hold one.
pub record IsFoundEntry (tops : List TopSize) (e : Choice) : Type 0 where
  pub most : length e.places ≤ e.asked.copies
  pub each : AllByRecursion (IsFound tops e.asked.size) e.places

-- What entries meet that are given one after another, over tops of these sizes and beside the places that are in use
-- before them.
abbrev pub EntryLaw : Type 1
EntryLaw = List TopSize → List Place → List Choice → Type 0

-- no entries meet it
abbrev pub HoldsOfNone : EntryLaw → Type 0
HoldsOfNone Lawful = (tops : List TopSize) (before : List Place) → Lawful tops before []

-- where some entries meet it, and others do beside what those took, all of them do
abbrev pub Continues : EntryLaw → Type 0
Continues Lawful =
    (tops : List TopSize) (before now : List Place) (entries more : List Choice) →
    Lawful tops before entries → SamePlaces now (taken_by_all entries ++ before) → Lawful tops now more →
    Lawful tops before (entries ++ more)

-- each of the entries is what an entry is
abbrev pub GivesEntries : EntryLaw → Type 0
GivesEntries Lawful =
    (tops : List TopSize) (before : List Place) (entries : List Choice) →
    Lawful tops before entries → AllByRecursion (IsFoundEntry tops) entries

-- what they take wasn't in use, and no two places of it meet
abbrev pub GivesOpen : EntryLaw → Type 0
GivesOpen Lawful =
    (tops : List TopSize) (before : List Place) (entries : List Choice) →
    Lawful tops before entries → are_open before (taken_by_all entries) ≡ true

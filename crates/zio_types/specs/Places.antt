-- Runs of sectors: which meet, which lie on their top, which fit a size, which are free, and which may be found for
-- an ask.
use Rattle.std.specs.Prelude.{◌≡◌, ℕ, ◌+◌, ◌-◌, ◌*◌, ◌/◌, ◌%◌, ◌<◌, ◌≤◌, min, max, List, [], ◌∷◌, ◌++◌, length, slice_get, Bool, true, false, ◌&&◌, ◌||◌, not, Option, Some, None, IsTrue, Contains, ◌↔◌, ◌==◌, nat_lt, nat_le}
use Rattle.std.specs.List.{list_all, list_any}
use Rattle.zio_types.specs.declared.place.Place.{Place}
use Rattle.zio_types.specs.declared.place.TopSize.{TopSize}
use Rattle.zio_types.specs.Choices.{Choice}

-- bytes in a sector
abbrev pub sector_size : ℕ
sector_size = 512

-- the sector after the last
abbrev pub end_of : Place → ℕ
end_of p = p.sector + p.sectors

-- two places of one top have a sector in common
abbrev pub meets : Place → Place → Bool
meets p q = (p.top == q.top) && nat_lt (max p.sector q.sector) (min (end_of p) (end_of q))

-- both lists have the same places, in whatever order
abbrev pub SamePlaces : List Place → List Place → Type 0
SamePlaces xs ys = (p : Place) → Contains xs p ↔ Contains ys p

-- a number of sectors, rounded up to a multiple of the unit
abbrev pub rounded_to : ℕ → ℕ → ℕ
rounded_to unit n = (n + (unit - 1)) / unit * unit

-- a number of bytes, rounded up to whole sectors
abbrev pub rounded_up : ℕ → ℕ
rounded_up n = (n + 511) / sector_size * sector_size

-- how many sectors a size in bytes takes on a top
-- Rule: sector units.
abbrev pub sectors_on : TopSize → ℕ → ℕ
sectors_on top size = rounded_to top.unit (size / sector_size)

-- the same by the top, if there is one
abbrev pub is_below : Place → Option TopSize → Bool
is_below p None = false
is_below p (Some top) = nat_lt 0 p.sectors && nat_le (end_of p) top.sectors

-- the top exists, and the place has sectors, which lie below the number that the top has
abbrev pub is_inside : List TopSize → Place → Bool
is_inside tops p = is_below p (slice_get tops p.top)

-- the same by the top, if there is one
abbrev pub fits_on : ℕ → Place → Option TopSize → Bool
fits_on size p None = false
fits_on size p (Some top) = (p.sector % top.unit == 0) && (p.sectors == sectors_on top size)

-- The place fits the size: its sector is a multiple of its top's unit, and its sectors are those that the size takes there.
-- Rule: sector units.
abbrev pub fits_size : List TopSize → ℕ → Place → Bool
fits_size tops size p = fits_on size p (slice_get tops p.top)

-- the same by the top, if there is one
abbrev pub is_aligned_on : Place → Option TopSize → Bool
is_aligned_on p None = false
is_aligned_on p (Some top) = (p.sector % top.unit == 0) && (p.sectors % top.unit == 0)

-- the place begins at a multiple of its top's unit and has a multiple of it
abbrev pub is_aligned : List TopSize → Place → Bool
is_aligned tops p = is_aligned_on p (slice_get tops p.top)

-- how many sectors are written and placed together
abbrev pub is_unit : ℕ → Bool
is_unit n = (n == 1) || (n == 2) || (n == 4) || (n == 8)

-- the top has one of these units, which divides its sectors
-- Rule: sector units.
abbrev pub is_lawful_top : TopSize → Bool
is_lawful_top top = is_unit top.unit && (top.sectors % top.unit == 0)

-- no used place has one of its sectors
abbrev pub is_free : List Place → Place → Bool
is_free used p = list_all (λ q. not (meets p q)) used

-- no two of the places meet
abbrev pub are_apart : List Place → Bool
are_apart [] = true
are_apart (p ∷ places) = is_free places p && are_apart places

-- each is free beside the used ones, and no two of them meet
abbrev pub are_open : List Place → List Place → Bool
are_open used places = list_all (is_free used) places && are_apart places

-- beside the used places the top has a free run for the size: a place there that fits it, is inside and is free
pub record HasRun (tops : List TopSize) (used : List Place) (top size : ℕ) : Type 0 where
  pub place : Place
  pub there : place.top ≡ top
  pub fits : IsTrue (fits_size tops size place)
  pub inside : IsTrue (is_inside tops place)
  pub free : IsTrue (is_free used place)

-- one of the places is on the top
abbrev pub uses_top : List Place → ℕ → Bool
uses_top places top = list_any (λ p. p.top == top) places

-- a place that may be found for a copy of this size, where the earlier copies have these places
-- Rule: allocation.
pub record IsNextCopy (tops : List TopSize) (used : List Place) (size : ℕ) (earlier : List Place) (p : Place) : Type 0 where
  pub fits : IsTrue (fits_size tops size p)
  pub inside : IsTrue (is_inside tops p)
  pub free : IsTrue (is_free (earlier ++ used) p)
  -- it goes to a top that no earlier copy uses, where such a top has room
  pub spread : uses_top earlier p.top ≡ true →
      (top : ℕ) → uses_top earlier top ≡ false → ¬ HasRun tops (earlier ++ used) top size

-- each place may be found after those before it
abbrev pub AreCopies : List TopSize → List Place → ℕ → List Place → List Place → Type 0
AreCopies tops used size earlier [] = Unit {0}
AreCopies tops used size earlier (p ∷ ps) =
    IsNextCopy tops used size earlier p × AreCopies tops used size (earlier ++ p ∷ []) ps

-- The law of one choice, beside the places that are used: a place for each copy, or for as many as there is room for.
-- Rule: allocation.
pub record IsLawfulChoice (tops : List TopSize) (used : List Place) (choice : Choice) : Type 0 where
  pub found : length choice.places ≤ choice.asked.copies
  pub copies : AreCopies tops used choice.asked.size [] choice.places
  pub refused : length choice.places < choice.asked.copies →
      (top : ℕ) → ¬ HasRun tops (choice.places ++ used) top choice.asked.size

-- The tables of the tops, by sector: which are free, and the length of the live place that begins there.
use Rattle.std.specs.Prelude.{◌≡◌, ℕ, zero, suc, ◌+◌, ◌<◌, ◌≤◌, List, [], ◌∷◌, ◌++◌, length, map, slice_index, Bool, true, false, ◌&&◌, not, Contains, ◌==◌, nat_lt, nat_le}
use Rattle.std.specs.List.{slice_index_or}
use Rattle.zio_types.specs.declared.place.Place.{Place}
use Rattle.zio_types.specs.declared.place.TopSize.{TopSize}
use Rattle.zio_types.specs.Places.{end_of, uses_top, rounded_to, is_aligned}
use Rattle.zio_places.specs.Flags.{best_run, AreAll, IsFreeRun}

-- A top's free flags by sector, for each sector the length of the live place that begins there, 0 for none, and the
-- unit.
pub record TopState : Type 0 where
  pub free : List Bool
  pub lengths : List ℕ
  pub unit : ℕ

abbrev pub no_top : TopState
no_top = record { free = []; lengths = []; unit = 1 }

-- what a table needs of a unit: nothing is divided by zero, and no sum wraps
pub record IsSmallUnit (unit : ℕ) : Type 0 where
  pub some : 0 < unit
  pub most : unit ≤ 8

abbrev pub size_of : TopState → TopSize
size_of t = record { sectors = length t.lengths; unit = t.unit }

abbrev pub top_at : List TopState → ℕ → TopState
top_at tops top = slice_index_or tops top no_top

abbrev pub sizes_of : List TopState → List TopSize
sizes_of tops = map size_of tops

-- so many sectors in whole units of a top
abbrev pub whole_units : List TopState → ℕ → ℕ → ℕ
whole_units tops top sectors = rounded_to (top_at tops top).unit sectors

-- each place stands on whole units of its top
abbrev pub AreAligned : List TopSize → List Place → Type 0
AreAligned sizes places = (p : Place) → Contains places p → is_aligned sizes p ≡ true

-- the live place that begins at a sector, where one does
abbrev pub places_here : ℕ → ℕ → ℕ → List Place
places_here top sector zero = []
places_here top sector (suc n) = record { top = top; sector = sector; sectors = suc n } ∷ []

abbrev pub places_from : ℕ → ℕ → List ℕ → List Place
places_from top sector [] = []
places_from top sector (n ∷ lengths) = places_here top sector n ++ places_from top (sector + 1) lengths

abbrev pub live_from : ℕ → List TopState → List Place
live_from top [] = []
live_from top (t ∷ tops) = places_from top 0 t.lengths ++ live_from (top + 1) tops

-- the live places, by top and sector
abbrev pub live_of : List TopState → List Place
live_of tops = live_from 0 tops

-- the place has this sector of this top
abbrev pub covers : Place → ℕ → ℕ → Bool
covers p top sector = (p.top == top) && (nat_le p.sector sector && nat_lt sector (end_of p))

abbrev pub one_if : Bool → ℕ
one_if true = 1
one_if false = 0

-- a sum over places
abbrev pub total : (Place → ℕ) → List Place → ℕ
total f [] = 0
total f (p ∷ places) = f p + total f places

-- how many of the places have this sector
abbrev pub cover_count : List Place → ℕ → ℕ → ℕ
cover_count places top sector = total (λ p. one_if (covers p top sector)) places

abbrev pub taken_in : List Bool → ℕ → ℕ
taken_in flags sector = one_if (not (slice_index_or flags sector true))

-- 1 where the sector exists and isn't free
abbrev pub taken_at : List TopState → ℕ → ℕ → ℕ
taken_at tops top sector = taken_in (top_at tops top).free sector

abbrev pub length_at : List TopState → ℕ → ℕ → ℕ
length_at tops top sector = slice_index (top_at tops top).lengths sector

-- the tables say of each sector whether one of these places has it, and no two of them do
abbrev pub AreBitmapsOf : List Place → List TopState → Type 0
AreBitmapsOf used tops = (top sector : ℕ) → cover_count used top sector ≡ taken_at tops top sector

-- each top has as many flags as lengths
abbrev pub HaveEqualLengths : List TopState → Type 0
HaveEqualLengths tops = (top : ℕ) → length (top_at tops top).free ≡ length (top_at tops top).lengths

-- what holds of the tables whatever is pending: a sector of a live place isn't free
pub record AreConsistent (tops : List TopState) : Type 0 where
  pub even : HaveEqualLengths tops
  pub covered : (top sector : ℕ) → cover_count (live_of tops) top sector ≤ taken_at tops top sector

-- the place has sectors, and all have this flag
pub record HasFlags (tops : List TopState) (p : Place) (flag : Bool) : Type 0 where
  pub filled : 0 < p.sectors
  pub flags : AreAll (top_at tops p.top).free p.sector p.sectors flag

-- the same live places, and the sectors of one place more are used
pub record IsMarkedUsed (old new : List TopState) (p : Place) : Type 0 where
  pub sizes : sizes_of new ≡ sizes_of old
  pub even : HaveEqualLengths old → HaveEqualLengths new
  pub even_back : HaveEqualLengths new → HaveEqualLengths old
  pub lengths : (top : ℕ) → (top_at new top).lengths ≡ (top_at old top).lengths
  pub taken : (top sector : ℕ) →
      taken_at new top sector ≡ one_if (covers p top sector) + taken_at old top sector

-- the same for places one after another
pub record AreMarkedUsed (old new : List TopState) (places : List Place) : Type 0 where
  pub sizes : sizes_of new ≡ sizes_of old
  pub even : HaveEqualLengths old → HaveEqualLengths new
  pub even_back : HaveEqualLengths new → HaveEqualLengths old
  pub lengths : (top : ℕ) → (top_at new top).lengths ≡ (top_at old top).lengths
  pub taken : (top sector : ℕ) →
      taken_at new top sector ≡ cover_count places top sector + taken_at old top sector

-- the same flags, and one place more is live
pub record IsEntered (old new : List TopState) (p : Place) : Type 0 where
  pub sizes : sizes_of new ≡ sizes_of old
  pub free : (top : ℕ) → (top_at new top).free ≡ (top_at old top).free
  pub lengths : (top : ℕ) → length (top_at new top).lengths ≡ length (top_at old top).lengths
  pub live : (f : Place → ℕ) → total f (live_of new) ≡ f p + total f (live_of old)

-- some places more are live, and their sectors used
pub record AreAllocated (old new : List TopState) (places : List Place) : Type 0 where
  pub sizes : sizes_of new ≡ sizes_of old
  pub even : HaveEqualLengths old → HaveEqualLengths new
  pub even_back : HaveEqualLengths new → HaveEqualLengths old
  pub live : (f : Place → ℕ) → total f (live_of new) ≡ total f places + total f (live_of old)
  pub taken : (top sector : ℕ) →
      taken_at new top sector ≡ cover_count places top sector + taken_at old top sector

-- A free place for so many sectors, rounded up to whole units, at the beginning of its top or behind a used sector.
pub record IsRoom (tops : List TopState) (sectors : ℕ) (p : Place) : Type 0 where
  pub length : p.sectors ≡ whole_units tops p.top sectors
  pub filled : 0 < p.sectors
  pub run : IsFreeRun (top_at tops p.top).free p.sector p.sectors

-- no top has a free run for so many sectors
abbrev pub NoneHasRoom : List TopState → ℕ → Type 0
NoneHasRoom tops sectors =
    (top : ℕ) → top < length tops → best_run (top_at tops top).free < whole_units tops top sectors

-- no top that none of the earlier places uses has one
abbrev pub NoFreshHasRoom : List TopState → List Place → ℕ → Type 0
NoFreshHasRoom tops earlier sectors =
    (top : ℕ) → top < length tops → uses_top earlier top ≡ false →
    best_run (top_at tops top).free < whole_units tops top sectors

-- such a place on a top that none of the earlier places uses
pub record IsFresh (tops : List TopState) (earlier : List Place) (sectors : ℕ) (p : Place) : Type 0 where
  pub room : IsRoom tops sectors p
  pub fresh : uses_top earlier p.top ≡ false

-- such a place, on a top that none of the earlier places uses where such a top has room
pub record IsFound (tops : List TopState) (earlier : List Place) (sectors : ℕ) (p : Place) : Type 0 where
  pub room : IsRoom tops sectors p
  pub spread : uses_top earlier p.top ≡ true → NoFreshHasRoom tops earlier sectors

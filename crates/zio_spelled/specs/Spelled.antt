-- The journal that a report's lines spell. docs/FORMATS.md, "Report".
use Rattle.std.specs.Prelude.{◌≡◌, ℕ, ◌/◌, ◌^◌, ◌<◌, ◌≤◌, List, [], ◌∷◌, ◌++◌, length, map, slice_get, Bool, ◌||◌, ◌==◌, Option, Some, None, decimal, codes}
use Rattle.std.specs.List.{flat_map, slice_split, AllByRecursion}
use Rattle.zio_types.specs.declared.place.Place.{Place}
use Rattle.zio_types.specs.declared.place.TopSize.{TopSize}
use Rattle.zio_types.specs.Choices.{Choice}
use Rattle.zio_types.specs.Places.{sector_size, sectors_on}
use Rattle.zio_script.specs.Words.{Word, is_word}
use Rattle.zio_report.specs.Lines.{path_text, place_text, role_text, spaced, when}

-- ---- words

-- what stands before, between and behind a line's blanks
abbrev pub parts_of : Word → List Word
parts_of line = slice_split (λ c. c == 32) line

-- the first of some lists, empty where there is none
abbrev pub first_of : {X : Type 0} → List (List X) → List X
first_of [] = []
first_of (xs ∷ others) = xs

-- the line up to its first blank
abbrev pub first_word : Word → Word
first_word line = first_of (parts_of line)

-- the head of a round
abbrev pub is_round : Word → Bool
is_round line = is_word (codes "round") (first_word line)

-- the line of an entry
abbrev pub is_take : Word → Bool
is_take line = is_word (codes "take") (first_word line)

-- the line of completions
abbrev pub is_order : Word → Bool
is_order line = is_word (codes "order") (first_word line)

-- a line of the journal
abbrev pub is_journal : Word → Bool
is_journal line = is_take line || is_order line

-- ---- entries

-- the line of an entry, marked as refused or not
abbrev pub take_text : Bool → Choice → Word
take_text marked c =
    codes "take " ++ decimal c.asked.key.request ++ spaced (decimal c.asked.key.attempt)
    ++ spaced (path_text c.asked.key.path) ++ spaced (role_text c.asked.key.role) ++ spaced (decimal c.asked.size)
    ++ spaced (decimal c.asked.copies) ++ flat_map place_text c.places ++ when marked (codes " refused")

-- the numbers of a place fit their types
pub record PlaceFits (p : Place) : Type 0 where
  pub top : p.top < 2 ^ 32
  pub sector : p.sector < 2 ^ 64

-- the numbers that the line shows fit their types, and there is room for its steps and places
pub record ChoiceFits (c : Choice) : Type 0 where
  pub request : c.asked.key.request < 2 ^ 32
  pub attempt : c.asked.key.attempt < 2 ^ 32
  pub steps : AllByRecursion (λ step. step < 2 ^ 8) c.asked.key.path
  pub depth : length c.asked.key.path ≤ 8
  pub size : c.asked.size < 2 ^ 32
  pub copies : c.asked.copies < 2 ^ 32
  pub places : AllByRecursion PlaceFits c.places
  pub found : length c.places ≤ 3

-- the line is that of an entry
pub record IsTakeShape (line : Word) : Type 0 where
  pub marked : Bool
  pub choice : Choice
  pub text : line ≡ take_text marked choice
  pub fits : ChoiceFits choice

-- how many sectors a size in bytes takes on the top, whose unit counts as 1 where there is none
abbrev pub sectors_there : Option TopSize → ℕ → ℕ
sectors_there None size = size / sector_size
sectors_there (Some top) size = sectors_on top size

-- the place with the sectors that the size takes on its top
abbrev pub sized_place : List TopSize → ℕ → Place → Place
sized_place tops size p = record p { sectors = sectors_there (slice_get tops p.top) size }

-- the entry in this round, with the sectors that its size takes: what its line doesn't show
abbrev pub completed : List TopSize → ℕ → Choice → Choice
completed tops round c = record {
  asked = record c.asked { key = record c.asked.key { round = round } };
  places = map (sized_place tops c.asked.size) c.places;
}

-- the line spells this entry of the round
pub record IsTake (tops : List TopSize) (round : ℕ) (line : Word) (choice : Choice) : Type 0 where
  pub marked : Bool
  pub text : line ≡ take_text marked choice
  pub fits : ChoiceFits choice
  pub whole : choice ≡ completed tops round choice

-- ---- completions

-- the line of completed requests
abbrev pub order_line : List ℕ → Word
order_line numbers = codes "order" ++ flat_map (λ n. spaced (decimal n)) numbers

-- the line spells these requests, of which there is one at least
pub record IsOrder (line : Word) (numbers : List ℕ) : Type 0 where
  pub text : line ≡ order_line numbers
  pub fits : AllByRecursion (λ n. n < 2 ^ 32) numbers
  pub some : 0 < length numbers

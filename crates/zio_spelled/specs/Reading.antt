-- How the reader takes a line apart. Nothing of it has to be believed.
use Rattle.std.specs.Prelude.{ℕ, ◌^◌, List, [], ◌∷◌, ◌++◌, length, cond, not, ◌&&◌, ◌==◌, nat_lt, Option, Some, None, option_map, codes}
use Rattle.std.specs.Bool.{then_some}
use Rattle.std.specs.List.{slice_split}
use Rattle.std.specs.Str.Parse.{digits_value}
use Rattle.zio_types.specs.declared.journal.Key.{Key}
use Rattle.zio_types.specs.declared.journal.Role.{Role}
use Rattle.zio_types.specs.declared.journal.Role.TheVariants.{Body, Head}
use Rattle.zio_types.specs.declared.place.Place.{Place}
use Rattle.zio_types.specs.declared.place.TopSize.{TopSize}
use Rattle.zio_types.specs.Choices.{Choice}
use Rattle.zio_script.specs.Lines.{◌>>=◌}
use Rattle.zio_script.specs.Words.{Word, Entry, is_empty, is_numeral, is_word, value_in}
use Rattle.zio_spelled.specs.declared.parts.Parts.{Parts}
use Rattle.zio_spelled.specs.declared.rounds.RoundJournal.{RoundJournal}
use Rattle.zio_spelled.specs.Spelled.{is_order, is_take, parts_of, sized_place}

-- ---- parts

-- the parts of what is left of a text behind a separator, if anything is
abbrev pub parts_left : ℕ → Option Word → List Word
parts_left separator None = []
parts_left separator (Some text) = slice_split (λ c. c == separator) text

-- the parts that aren't read yet
abbrev pub unread : Parts → List Word
unread parts = parts_left parts.separator (option_map (λ t. t.now) parts.rest)

-- what a part says, and the parts behind it
pub record Read (X : Type 0) : Type 0 where
  pub value : X
  pub rest : List Word

-- the next part
abbrev pub next_read : {X : Type 0} → (Word → Option X) → List Word → Option (Read X)
next_read read [] = None
next_read read (part ∷ parts) = option_map (λ x. record { value = x; rest = parts }) (read part)

-- ---- words

-- the number below the limit that a word spells
abbrev pub number_below : ℕ → Word → Option ℕ
number_below limit word = then_some (is_numeral word && nat_lt (digits_value 10 word) limit) (digits_value 10 word)

-- a number of 32 bits
abbrev pub number_in : Word → Option ℕ
number_in word = number_below (2 ^ 32) word

-- a number of 64 bits
abbrev pub sector_in : Word → Option ℕ
sector_in word = number_below (2 ^ 64) word

-- the words of roles
abbrev pub role_words : List (Entry Role)
role_words = record { word = codes "body"; value = Body } ∷ record { word = codes "head"; value = Head } ∷ []

-- the role that a word is
abbrev pub role_in : Word → Option Role
role_in word = value_in role_words word

-- the path with these steps behind it, where it has room for them
abbrev pub steps_onto : List ℕ → List Word → Option (List ℕ)
steps_onto path [] = Some path
steps_onto path (part ∷ parts) =
    number_below (2 ^ 8) part >>= λ step. cond (nat_lt (length path) 8) (steps_onto (path ++ step ∷ []) parts) None

-- the path that a word is
abbrev pub path_in : Word → Option (List ℕ)
path_in word = cond (is_word (codes "-") word) (Some []) (steps_onto [] (slice_split (λ c. c == 46) word))

-- the place that a word is, with the sectors of this size
abbrev pub place_in : List TopSize → ℕ → Word → Option Place
place_in tops size word = do
  top ← next_read number_in (slice_split (λ c. c == 58) word)
  sector ← next_read sector_in top.rest
  then_some (is_empty sector.rest) (sized_place tops size (record { top = top.value; sector = sector.value; sectors = 0 }))

-- ---- lines

-- one more place
abbrev pub with_place : Choice → Place → Choice
with_place c p = record c { places = c.places ++ p ∷ [] }

-- the entry with the places of these words, where it has room for them
abbrev pub places_onto : List TopSize → Choice → List Word → Option Choice
places_onto tops c [] = Some c
places_onto tops c (word ∷ words) =
    cond (is_word (codes "refused") word) (then_some (is_empty words) c)
    (place_in tops c.asked.size word >>= λ p. cond (nat_lt (length c.places) 3) (places_onto tops (with_place c p) words) None)

-- whose entry it is
abbrev pub key_read : ℕ → List Word → Option (Read Key)
key_read round words = do
  request ← next_read number_in words
  attempt ← next_read number_in request.rest
  path ← next_read path_in attempt.rest
  role ← next_read role_in path.rest
  Some (record {
    value = record { request = request.value; round = round; attempt = attempt.value; path = path.value; role = role.value };
    rest = role.rest;
  })

-- the entry that is asked for, without places
abbrev pub bare : Key → ℕ → ℕ → Choice
bare key size copies = record { asked = record { key = key; size = size; copies = copies }; places = [] }

-- the entry of a line, from the words behind the first
abbrev pub take_read : List TopSize → ℕ → List Word → Option Choice
take_read tops round words = do
  key ← key_read round words
  size ← next_read number_in key.rest
  copies ← next_read number_in size.rest
  places_onto tops (bare key.value size.value copies.value) copies.rest

-- what a line says behind this first word
abbrev pub behind : {X : Type 0} → Word → (List Word → Option X) → List Word → Option X
behind first read [] = None
behind first read (word ∷ words) = cond (is_word first word) (read words) None

-- the entry that a line spells
abbrev pub take_in : List TopSize → ℕ → Word → Option Choice
take_in tops round line = behind (codes "take") (take_read tops round) (parts_of line)

-- these numbers and those of the words, if there is one at all
abbrev pub numbers_onto : List ℕ → List Word → Option (List ℕ)
numbers_onto numbers [] = then_some (not (is_empty numbers)) numbers
numbers_onto numbers (word ∷ words) = number_in word >>= λ n. numbers_onto (numbers ++ n ∷ []) words

-- the requests that a line spells
abbrev pub order_in : Word → Option (List ℕ)
order_in line = behind (codes "order") (numbers_onto []) (parts_of line)

-- ---- rounds

-- the journal of no line
abbrev pub no_lines : RoundJournal
no_lines = record { entries = []; order = [] }

-- one more entry
abbrev pub with_entry : RoundJournal → Choice → RoundJournal
with_entry j choice = record j { entries = j.entries ++ choice ∷ [] }

-- more requests that completed
abbrev pub with_order : RoundJournal → List ℕ → RoundJournal
with_order j numbers = record j { order = j.order ++ numbers }

-- the journal with one more line
abbrev pub line_onto : List TopSize → ℕ → RoundJournal → Word → Option RoundJournal
line_onto tops round j line =
    cond (is_take line) (option_map (with_entry j) (take_in tops round line))
    (cond (is_order line) (option_map (with_order j) (order_in line)) (Some j))

-- the same with more lines
abbrev pub lines_onto : List TopSize → ℕ → RoundJournal → List Word → Option RoundJournal
lines_onto tops round j [] = Some j
lines_onto tops round j (line ∷ lines) = line_onto tops round j line >>= λ next. lines_onto tops round next lines

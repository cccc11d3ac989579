-- The asks of all rounds, answered by the entries that a report spells of each.
use Rattle.std.specs.Prelude.{◌≡◌, ◌≤◌, ◌-◌, ℕ, List, [], ◌∷◌, ◌++◌, cond, find, length, nat_le, slice_get, Bool, true, ◌&&◌, Option, Some, None, is_some}
use Rattle.std.specs.List.{AllByRecursion, list_all}
use Rattle.zio_types.specs.declared.place.Place.{Place}
use Rattle.zio_types.specs.declared.place.TopSize.{TopSize}
use Rattle.zio_types.specs.Choices.{Ask, Choice, same_ask, taken_by}
use Rattle.zio_types.specs.Places.{are_open, fits_size, is_inside}
use Rattle.zio_cksum.specs.Images.{Images}
use Rattle.zio_gang.specs.Attempts.{Pending, Terms}
use Rattle.zio_gang.specs.Journals.{AreChoicesOf, AreLawful, HaveDistinctKeys, asks_of}
use Rattle.zio_gang.specs.Rounds.{settle_each}
use Rattle.zio_gang.specs.Trees.{sizes_of}
use Rattle.zio_blocks.specs.Choosers.{IsFoundEntry, taken_by_all}
use Rattle.zio_places.specs.Ordered.{all_placed_in}
use Rattle.zio_places.specs.Spaces.{SpaceState, used}
use Rattle.zio_spelled.specs.declared.rounds.RoundJournal.{RoundJournal}

abbrev pub entries_if : Option RoundJournal → List Choice
entries_if None = []
entries_if (Some journal) = journal.entries

-- the entries of the round with this number, from 1 on
abbrev pub entries_in : List RoundJournal → ℕ → List Choice
entries_in journals round = entries_if (slice_get journals (round - 1))

-- these are the entries that a report spells of the round
abbrev pub AreSpelledIn : List RoundJournal → ℕ → List Choice → Type 0
AreSpelledIn journals round entries = entries ≡ entries_in journals round

-- ---- answers

-- the entry under the ask's key, where size and copies are the same too
abbrev pub recorded_for : List Choice → Ask → Option Choice
recorded_for entries ask = find (λ (c : Choice). same_ask c.asked ask) entries

-- none of the copies has a place
abbrev pub unplaced : Ask → Choice
unplaced ask = record { asked = ask; places = [] }

-- it has no more places than copies, and each may hold a copy
abbrev pub is_found : List TopSize → Choice → Bool
is_found tops c = nat_le (length c.places) c.asked.copies && list_all (λ p. fits_size tops c.asked.size p && is_inside tops p) c.places

-- an entry is the answer where it is what an entry is, and what it takes is open; else the ask is refused
abbrev pub reply_by : List TopSize → List Place → Ask → Option Choice → Choice
reply_by tops used ask None = unplaced ask
reply_by tops used ask (Some c) = cond (is_found tops c && are_open used (taken_by c)) c (unplaced ask)

-- the answer to an ask, where these places are in use
abbrev pub reply_to : List RoundJournal → List TopSize → List Place → Ask → Choice
reply_to journals tops used ask = reply_by tops used ask (recorded_for (entries_in journals ask.key.round) ask)

-- these are answers, one after another
abbrev pub AreReplies : List RoundJournal → List TopSize → List Place → List Choice → Type 0
AreReplies journals tops before [] = Unit {0}
AreReplies journals tops before (c ∷ cs) =
    (1 ≤ c.asked.copies) × (c ≡ reply_to journals tops before c.asked) × AreReplies journals tops (taken_by c ++ before) cs

-- What answers meet that are given one after another: each is what an entry is, and what they take wasn't in use, and no
-- two places of it meet. They needn't be lawful in the order of the asks.
pub record AreFound (tops : List TopSize) (before : List Place) (entries : List Choice) : Type 0 where
  pub each : AllByRecursion (IsFoundEntry tops) entries
  pub free : are_open before (taken_by_all entries) ≡ true

-- and each is what its ask is answered
pub record AreReplayed (journals : List RoundJournal) (tops : List TopSize) (before : List Place) (entries : List Choice) : Type 0 where
  pub found : AreFound tops before entries
  pub replies : AreReplies journals tops before entries

-- what is seen of the chooser
pub record SeenReplayed : Type 0 where
  pub space : SpaceState
  pub given : List Choice

-- it answered an ask, and this is the chooser then
pub record IsReplied (journals : List RoundJournal) (old : SeenReplayed) (ask : Ask) (entry : Choice) (new : SeenReplayed) : Type 0 where
  pub entry_is : entry ≡ reply_to journals old.space.sizes (used old.space) ask
  pub after : new ≡ record {
    space = record old.space { live = all_placed_in (taken_by entry) old.space.live };
    given = old.given ++ entry ∷ [];
  }

-- ---- a round

-- The entries of a round may be its choices: no key stands twice, and they are lawful one after another beside these places.
pub record MayBeChoices (sizes : List TopSize) (used : List Place) (entries : List Choice) : Type 0 where
  pub distinct : HaveDistinctKeys (asks_of entries)
  pub lawful : AreLawful sizes used entries

-- there is an entry for the ask
abbrev pub has_entry : List Choice → Choice → Bool
has_entry entries given = is_some (recorded_for entries given.asked)

-- there are as many answers as entries, and each has an entry
pub record MatchEntries (entries given : List Choice) : Type 0 where
  pub many : length given ≡ length entries
  pub each : list_all (has_entry entries) given ≡ true

-- the entries that a report spells of a round are its choices
abbrev pub ChoseSpelled : List RoundJournal → Terms → List (List Pending) → Images → Type 0
ChoseSpelled journals t trees before =
    AreChoicesOf (sizes_of t.setting.tops) t.used (settle_each (entries_in journals t.round) t trees before).asks (entries_in journals t.round)

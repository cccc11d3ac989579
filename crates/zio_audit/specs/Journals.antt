-- The journals of a report's rounds, read one after another. It is the reader's own; nothing of it has to be believed.
use Rattle.std.specs.Prelude.{◌≡◌, ◌<◌, ◌^◌, ◌+◌, ℕ, List, [], ◌∷◌, length, true, Option, None, Some}
use Rattle.std.specs.List.{list_all}
use Rattle.zio_types.specs.declared.place.TopSize.{TopSize}
use Rattle.zio_types.specs.Places.{is_lawful_top}
use Rattle.zio_script.specs.Words.{Word}
use Rattle.zio_spelled.specs.declared.rounds.RoundJournal.{RoundJournal}
use Rattle.zio_spelled.specs.Reading.{lines_onto, no_lines}
use Rattle.zio_spelled.specs.Rounds.{AreJournals}

-- the journal that was read, if there is one
abbrev pub journal_or_none : Option RoundJournal → RoundJournal
journal_or_none None = no_lines
journal_or_none (Some journal) = journal

-- what is read of rounds, from this number on
abbrev pub journals_from : List TopSize → ℕ → List (List Word) → List RoundJournal
journals_from tops number [] = []
journals_from tops number (lines ∷ rounds) =
    journal_or_none (lines_onto tops number no_lines lines) ∷ journals_from tops (number + 1) rounds

-- so many rounds were read: what is left spells the journals that are read of it
pub record AreKept (tops : List TopSize) (read : ℕ) (left : List (List Word)) : Type 0 where
  pub lawful : list_all is_lawful_top tops ≡ true
  pub few : read + 1 + length left < 2 ^ 32
  pub spelled : AreJournals tops (read + 1) left (journals_from tops (read + 1) left)

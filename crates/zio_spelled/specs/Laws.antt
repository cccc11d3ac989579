-- Laws of what a report spells.
use Rattle.std.specs.Prelude.{◌≡◌, ℕ, ◌^◌, ◌<◌, List, map}
use Rattle.std.specs.List.{AllByRecursion}
use Rattle.zio_types.specs.declared.journal.Completion.{Completion}
use Rattle.zio_types.specs.declared.place.TopSize.{TopSize}
use Rattle.zio_types.specs.Choices.{Choice}
use Rattle.zio_script.specs.Words.{Word, lines_of}
use Rattle.zio_report.specs.Lines.{journal_text}
use Rattle.zio_spelled.specs.declared.rounds.RoundJournal.{RoundJournal}
use Rattle.zio_spelled.specs.Rounds.{IsRoundJournal, IsSpelled}
use Rattle.zio_spelled.specs.Spelled.{ChoiceFits, IsTake, IsTakeShape, completed}

-- the requests that completed
abbrev pub requests_of : List Completion → List ℕ
requests_of completions = map (λ (d : Completion). d.request) completions

-- What is printed of a round's entries and completions spells them, where their numbers fit their types and each place
-- has the sectors of its entry's size.
abbrev pub PrintedIsSpelled : Type 0
PrintedIsSpelled =
    (tops : List TopSize) (round : ℕ) (choices : List Choice) (completions : List Completion)
    → AllByRecursion ChoiceFits choices → AllByRecursion (λ (c : Choice). c ≡ completed tops round c) choices
    → AllByRecursion (λ n. n < 2 ^ 32) (requests_of completions)
    → IsRoundJournal tops round (lines_of (journal_text choices completions)) (record { entries = choices; order = requests_of completions })

-- A line of an entry's shape spells an entry, in whatever round and on whatever tops.
abbrev pub ShapesSpell : Type 0
ShapesSpell =
    (tops : List TopSize) (round : ℕ) (line : Word) → IsTakeShape line → (choice : Choice) × IsTake tops round line choice

-- the lines of a round spell one journal at most
abbrev pub SpellsOne : Type 0
SpellsOne =
    (tops : List TopSize) (round : ℕ) (lines : List Word) (a b : RoundJournal)
    → IsRoundJournal tops round lines a → IsRoundJournal tops round lines b → a ≡ b

-- and a report one journal of each of its rounds
abbrev pub ReportSpellsOne : Type 0
ReportSpellsOne =
    (tops : List TopSize) (text : List ℕ) (a b : List RoundJournal) → IsSpelled tops text a → IsSpelled tops text b → a ≡ b

-- The journal of a report, round by round. docs/FORMATS.md, "Report".
use Rattle.std.specs.Prelude.{◌≡◌, ℕ, ◌+◌, List, [], ◌∷◌, filter, false, Option, Some, None, option_map}
use Rattle.std.specs.List.{AllZip, concat, list_any, slice_split}
use Rattle.zio_types.specs.declared.place.TopSize.{TopSize}
use Rattle.zio_script.specs.Words.{Word, lines_of}
use Rattle.zio_spelled.specs.declared.rounds.JournalFault.{JournalFault}
use Rattle.zio_spelled.specs.declared.rounds.JournalFault.TheVariants.{Faulty, Memory}
use Rattle.zio_spelled.specs.declared.rounds.RoundJournal.{RoundJournal}
use Rattle.zio_spelled.specs.declared.rounds.Rounds.{Rounds}
use Rattle.zio_spelled.specs.Spelled.{IsOrder, IsTake, first_of, is_journal, is_order, is_round, is_take}

-- all but the first
abbrev pub others_of : {X : Type 0} → List X → List X
others_of [] = []
others_of (x ∷ xs) = xs

-- a report's lines before its first `round` line, and behind each of its `round` lines
abbrev pub parts_by_round : List ℕ → List (List Word)
parts_by_round text = slice_split is_round (lines_of text)

-- the lines before the first round
abbrev pub lines_before : List ℕ → List Word
lines_before text = first_of (parts_by_round text)

-- the lines of each round
abbrev pub lines_of_rounds : List ℕ → List (List Word)
lines_of_rounds text = others_of (parts_by_round text)

-- The lines of a round spell this journal: an entry for each `take` line, and the requests of all `order` lines.
pub record IsRoundJournal (tops : List TopSize) (round : ℕ) (lines : List Word) (j : RoundJournal) : Type 0 where
  pub entries : AllZip (IsTake tops round) (filter is_take lines) j.entries
  pub orders : List (List ℕ)
  pub order_lines : AllZip IsOrder (filter is_order lines) orders
  pub order_is : j.order ≡ concat orders

-- the same of each round, from this number on
abbrev pub AreJournals : List TopSize → ℕ → List (List Word) → List RoundJournal → Type 0
AreJournals tops round [] [] = Unit {0}
AreJournals tops round [] (j ∷ journals) = ⊥
AreJournals tops round (lines ∷ rounds) [] = ⊥
AreJournals tops round (lines ∷ rounds) (j ∷ journals) =
    IsRoundJournal tops round lines j × AreJournals tops (round + 1) rounds journals

-- A report spells these journals of its rounds: no line of the journal stands before them.
pub record IsSpelled (tops : List TopSize) (text : List ℕ) (journals : List RoundJournal) : Type 0 where
  pub before : list_any is_journal (lines_before text) ≡ false
  pub rounds : AreJournals tops 1 (lines_of_rounds text) journals

-- ---- reading

-- the rounds behind the head of one, if there is one
abbrev pub rounds_behind : Option (List ℕ) → List (List Word)
rounds_behind None = []
rounds_behind (Some text) = parts_by_round text

-- the lines of the rounds that aren't read yet
abbrev pub rounds_left : Rounds → List (List Word)
rounds_left rounds = rounds_behind (option_map (λ t. t.now) rounds.rest)

-- what holds where a line is at fault; want of memory says nothing
abbrev pub IfFaulty : JournalFault → Type 0 → Type 0
IfFaulty Faulty P = P
IfFaulty Memory P = Unit {0}

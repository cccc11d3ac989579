-- The journal of a run by the entries that a report spells, as far as it has come.
use Rattle.std.specs.Prelude.{◌≡◌, ℕ, zero, suc, List, [], ◌++◌, length}
use Rattle.zio_types.specs.declared.journal.Journal.{Journal}
use Rattle.zio_types.specs.Choices.{Choice}
use Rattle.zio_spelled.specs.declared.rounds.RoundJournal.{RoundJournal}
use Rattle.zio_audit.specs.Replays.{entries_in}

-- the entries that a report spells of its first rounds, of so many
abbrev pub entries_upto : List RoundJournal → ℕ → List Choice
entries_upto journals zero = []
entries_upto journals (suc rounds) = entries_upto journals rounds ++ entries_in journals (suc rounds)

-- what is seen of whoever keeps it: the journal so far, and how many of its entries were let go
pub record SeenSoFar : Type 0 where
  pub journal : Journal
  pub gone : ℕ

-- these are all, so many, and these are held of them: those that were let go stand before
pub record AreHeld (all : List Choice) (many : ℕ) (held : List Choice) : Type 0 where
  pub gone : List Choice
  pub all_are : all ≡ gone ++ held
  pub many_are : many ≡ length all

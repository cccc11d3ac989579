-- What holds of a chooser that answers by a report. It is the chooser's own; nothing of it has to be believed.
use Rattle.std.specs.Prelude.{◌≡◌, ◌<◌, ◌^◌, ℕ, List, length, true, Option, IfSome}
use Rattle.std.specs.List.{list_all}
use Rattle.zio_types.specs.declared.place.TopSize.{TopSize}
use Rattle.zio_types.specs.Places.{is_lawful_top}
use Rattle.zio_types.specs.Choices.{Choice}
use Rattle.zio_gang.specs.Journals.{HaveDistinctKeys, asks_of}
use Rattle.zio_places.specs.Spaces.{IsSound, SpaceState}
use Rattle.zio_spelled.specs.declared.rounds.RoundJournal.{RoundJournal}
use Rattle.zio_audit.specs.declared.index.Name.{Name}
use Rattle.zio_audit.specs.Names.{IsIndexOf}
use Rattle.zio_audit.specs.Replays.{entries_in}

-- the number of a round, and its entries
pub record SeenRound : Type 0 where
  pub number : ℕ
  pub all : List Choice

-- no key stands twice, and each entry is found where it stands
pub record IsIndexed (all : List Choice) (index : List (Name × ℕ)) : Type 0 where
  pub distinct : HaveDistinctKeys (asks_of all)
  pub found : IsIndexOf index all all

-- the entries are those of the round
abbrev pub IsOfRound : List RoundJournal → SeenRound → Type 0
IsOfRound journals of = of.all ≡ entries_in journals of.number

-- it reads the report's journals, and has a sound space with these tops
pub record IsKeptReplay (journals own : List RoundJournal) (space : SpaceState) (tops : List TopSize) (of_round : Option SeenRound) : Type 0 where
  pub journals_are : own ≡ journals
  pub sizes : tops ≡ space.sizes
  pub lawful : list_all is_lawful_top tops ≡ true
  pub few : length tops < 2 ^ 32
  pub sound : IsSound space
  pub of_round_is : IfSome of_round (IsOfRound journals)

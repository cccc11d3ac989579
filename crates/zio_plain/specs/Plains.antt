-- A runner of rounds over disks and a chooser of places, as contracts see it.
use Rattle.std.specs.Prelude.{◌≡◌, ℕ, List, [], map, Bool}
use Rattle.zio_types.specs.declared.place.Place.{Place}
use Rattle.zio_types.specs.declared.place.TopSize.{TopSize}
use Rattle.zio_types.specs.Choices.{Choice}
use Rattle.zio_types.specs.Places.{SamePlaces}
use Rattle.zio_cksum.specs.Images.{Setting}
use Rattle.zio_gang.specs.Trees.{sizes_of}
use Rattle.zio_disks.specs.Trees.{BearsTops}
use Rattle.zio_blocks.specs.Blocks.{HavePointers}
use Rattle.zio_blocks.specs.Choosers.{AreHeld}
use Rattle.zio_course.specs.Runners.{Standing}

-- its setting, its disks and its chooser, the number of its last round, whether a round was stopped, and whether this was
-- since what was recorded of it is strange
pub record SeenPlain (D C : Type 0) : Type 0 where
  pub setting : Setting
  pub disks : List D
  pub chooser : C
  pub last : ℕ
  pub stopped : Bool
  pub strange : Bool

-- what is known of it, by the counts of its disks' faults and the chooser's places in use
abbrev pub standing_of : {D C : Type 0} → (D → ℕ) → (C → List Place) → SeenPlain D C → Standing
standing_of faults live p = record {
  tops = p.setting.tops;
  rows = p.setting.rows;
  live = live p.chooser;
  last = p.last;
  stopped = p.stopped;
  faults = map faults p.disks;
}

-- What holds between two rounds: the disks bear the tops, whose places stand in pointers; the chooser has these tops, it
-- holds its places, all that it uses are live, and its entries were taken.
pub record IsSteady (s : Setting) (bytes : List ℕ) (sizes : List TopSize) (used live : List Place) (given : List Choice) : Type 0 where
  pub bears : BearsTops s bytes
  pub tops : HavePointers s.tops
  pub sizes_are : sizes ≡ sizes_of s.tops
  pub held : AreHeld sizes used live
  pub same : SamePlaces used live
  pub taken : given ≡ []

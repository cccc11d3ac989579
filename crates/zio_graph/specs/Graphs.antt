-- The engine on one thread, as contracts see it.
use Rattle.std.specs.Prelude.{ℕ, List, map, Bool}
use Rattle.zio_types.specs.declared.place.Place.{Place}
use Rattle.zio_cksum.specs.Images.{Setting}
use Rattle.zio_trace.specs.Separate.{LeavesOnce}
use Rattle.zio_trace.specs.SoundRounds.{LeavesDiffer}
use Rattle.zio_disks.specs.Trees.{BearsTops}
use Rattle.zio_blocks.specs.Blocks.{HavePointers}
use Rattle.zio_course.specs.Runners.{Standing}
use Rattle.zio_stages.specs.Tops.{AreTops}
use Rattle.zio_turns.specs.declared.grounds.Grounds.{Grounds}
use Rattle.zio_graph.specs.SteadyGrounds.{IsSteadyGrounds}

-- its setting, its disks and the places in use, the number of its last round, and whether a round was stopped
pub record SeenGraph (D : Type 0) : Type 0 where
  pub setting : Setting
  pub disks : List D
  pub live : List Place
  pub last : ℕ
  pub stopped : Bool

-- what is known of it, by the counts of its disks' faults
abbrev pub standing_of : {D : Type 0} → (D → ℕ) → SeenGraph D → Standing
standing_of faults g = record {
  tops = g.setting.tops;
  rows = g.setting.rows;
  live = g.live;
  last = g.last;
  stopped = g.stopped;
  faults = map faults g.disks;
}

-- Rounds can be run over this setting and disks of these sizes in bytes: the disks bear the tops; places of the tops stand in
-- pointers; each top has one to four leaves, and no leaf stands twice.
pub record CanRun (s : Setting) (bytes : List ℕ) : Type 0 where
  pub bears : BearsTops s bytes
  pub pointers : HavePointers s.tops
  pub tops : AreTops s.tops
  pub leaves_once : LeavesOnce s.tops
  pub leaves_differ : LeavesDiffer s.tops

-- Between two rounds the grounds are steady, over tops as nodes are lent them.
pub record AreReadyGrounds {D : Type 0} (bytes : D → ℕ) (g : Grounds D) : Type 0 where
  pub steady : IsSteadyGrounds bytes g
  pub tops : AreTops g.setting.tops

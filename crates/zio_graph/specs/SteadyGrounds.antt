-- The grounds between two rounds.
use Rattle.std.specs.Prelude.{◌≡◌, ℕ, [], length, map, false, IsTrue}
use Rattle.std.specs.List.{AllByRecursion}
use Rattle.zio_types.specs.declared.place.Place.{Place}
use Rattle.zio_types.specs.Places.{is_inside}
use Rattle.zio_script.specs.declared.script.Failmode.{Failmode}
use Rattle.zio_gang.specs.Attempts.{Terms}
use Rattle.zio_gang.specs.Trees.{sizes_of}
use Rattle.zio_trace.specs.Separate.{LeavesOnce}
use Rattle.zio_trace.specs.SoundRounds.{LeavesDiffer}
use Rattle.zio_disks.specs.Trees.{HasSectors}
use Rattle.zio_blocks.specs.Blocks.{HavePointers}
use Rattle.zio_course.specs.Runners.{Standing}
use Rattle.zio_turns.specs.AtLeaves.{keys_at}
use Rattle.zio_turns.specs.Grounds.{AreReady}
use Rattle.zio_turns.specs.Ledgers.{AreOnce}
use Rattle.zio_turns.specs.ShortTops.{AreShort}
use Rattle.zio_turns.specs.declared.grounds.Grounds.{Grounds}

-- What holds between two rounds: the space is that of the tops, whose places stand in pointers, and has no entry; the places in use
-- lie inside the tops, each once; nothing waits at a leaf; no leaf stands twice in the tops, each is on a disk that has its sectors,
-- and a queue can take what lies on the tops.
pub record IsSteadyGrounds {D : Type 0} (bytes : D → ℕ) (g : Grounds D) : Type 0 where
  pub tops_are : g.desk.tops ≡ g.setting.tops
  pub sizes_are : g.desk.space.sizes ≡ sizes_of g.setting.tops
  pub none_pending : g.desk.space.pending ≡ []
  pub none_made : g.desk.space.entries ≡ []
  pub inside : AllByRecursion (λ (p : Place). IsTrue (is_inside (sizes_of g.setting.tops) p)) g.desk.space.live
  pub once : AreOnce g.desk.space.live
  pub ready : AreReady g.setting.rows (map bytes g.disks.items) g.queues.leaves.items
  pub none_waits : keys_at g.queues.leaves.items ≡ []
  pub each : length g.queues.leaves.items ≡ length g.disks.items
  pub leaves_once : LeavesOnce g.setting.tops
  pub leaves_differ : LeavesDiffer g.setting.tops
  pub bears : AllByRecursion (HasSectors (map bytes g.disks.items)) g.setting.tops
  pub short : AreShort g.setting.tops
  pub pointers : HavePointers g.setting.tops

-- what is known of a runner over these that has run no round yet
abbrev pub standing_on : {D : Type 0} → (D → ℕ) → Grounds D → Standing
standing_on faults g = record {
  tops = g.setting.tops;
  rows = g.setting.rows;
  live = g.desk.space.live;
  last = 0;
  stopped = false;
  faults = map faults g.disks.items;
}

-- the terms of a round over these
abbrev pub terms_on : {D : Type 0} → Grounds D → Failmode → ℕ → Terms
terms_on g failmode round = record { setting = g.setting; failmode = failmode; round = round; used = g.desk.space.live }

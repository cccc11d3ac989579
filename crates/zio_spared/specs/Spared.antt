-- Which copy of a piece a round spares at every moment, so that the piece survives a crash.
use Rattle.std.specs.Prelude.{◌≡◌, ℕ, List, Some, IsTrue, Contains}
use Rattle.std.specs.List.{AllByRecursion}
use Rattle.zio_faults.specs.declared.table.Row.{Row}
use Rattle.zio_cksum.specs.Frames.{spots_of}
use Rattle.zio_cksum.specs.Images.{Images, Setting, Spot, bytes_at}
use Rattle.zio_gang.specs.declared.tree.Tree.{Tree}
use Rattle.zio_gang.specs.Attempts.{Terms}
use Rattle.zio_trace.specs.BlockCopies.{Copies, copies_of}
use Rattle.zio_trace.specs.Families.{Forest}
use Rattle.zio_trace.specs.Labels.{Labelled}
use Rattle.zio_trace.specs.Leaves.{AreClear, Store}
use Rattle.zio_trace.specs.Programs.{Deed}
use Rattle.zio_trace.specs.Readers.{TurnsNoBytes}
use Rattle.zio_trace.specs.SoundRounds.{IsBlockIn, work_of}
use Rattle.zio_trace.specs.Tasks.{Leaf, Task, Value, good_by}
use Rattle.zio_trace.specs.Underway.{Flight, IsUnderway, State}

-- no row turns bytes
abbrev pub NoFlips : List Row → Type 0
NoFlips rows = AllByRecursion (λ (row : Row). TurnsNoBytes row.kind) rows

-- a piece of a block that one of the round's requests names: one of its headers, its body, or the body of a member
pub record IsNamedPiece (f : Forest) (c : Copies) : Type 0 where
  pub tree : Tree
  pub named : IsBlockIn f tree
  pub piece : Contains (copies_of tree) c

-- the bytes of a copy in the images are good, whatever a read of them would meet
abbrev pub IsGoodIn : Images → Copies → Spot → Type 0
IsGoodIn images c spot = IsTrue (good_by c.test (bytes_at images spot c.len))

-- a copy of the piece that is good there
pub record HasGood (s : Setting) (images : Images) (c : Copies) : Type 0 where
  pub spot : Spot
  pub listed : Contains (spots_of s c.places) spot
  pub good : IsGoodIn images c spot

-- if the operation is a write, it has no byte of the copy
abbrev pub StoresClear : Spot → Task → Type 0
StoresClear spot (Leaf (Store retry bytes other)) = AreClear spot other
StoresClear spot _ = Unit {0}

-- A copy is spared at this moment: no write met it that was done, and none that is in flight meets it. So it has the
-- bytes that it had.
pub record IsSpared (before : Images) (c : Copies) (spot : Spot) (now : State) : Type 0 where
  pub deeds : AllByRecursion (λ (d : Deed (Labelled Task) Value). StoresClear spot d.op.op) now.deeds
  pub flights : AllByRecursion (λ (x : Flight). StoresClear spot x.op.op) now.flights
  pub same : bytes_at now.images spot c.len ≡ bytes_at before spot c.len

-- a copy that was good before is spared at this moment
pub record HasSpared (s : Setting) (before : Images) (c : Copies) (now : State) : Type 0 where
  pub spot : Spot
  pub listed : Contains (spots_of s c.places) spot
  pub good : IsGoodIn before c spot
  pub spared : IsSpared before c spot now

-- and one is spared from the first moment of the round to the last
pub record KeepsCopy (t : Terms) (sizes : ℕ → ℕ) (f : Forest) (before : Images) (c : Copies) : Type 0 where
  pub spot : Spot
  pub listed : Contains (spots_of t.setting c.places) spot
  pub good : IsGoodIn before c spot
  pub spared : (now : State) → IsUnderway (work_of t sizes f) (Some before) now → IsSpared before c spot now

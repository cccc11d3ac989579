-- What a crash may leave at some moment of a round: the bytes as they were before, but for what was written by then, or
-- was being written.
use Rattle.std.specs.Prelude.{ℕ, ◌+◌, ◌<◌, ◌≤◌, List, [], ◌∷◌, ◌++◌, Option, Contains}
use Rattle.std.specs.List.{flat_map}
use Rattle.zio_cksum.specs.Frames.{IsCovered, SameOutside, spots_of}
use Rattle.zio_cksum.specs.Images.{Images, Spot}
use Rattle.zio_gang.specs.Attempts.{Terms}
use Rattle.zio_trace.specs.BlockCopies.{Copies}
use Rattle.zio_trace.specs.Families.{Forest}
use Rattle.zio_trace.specs.Labels.{Labelled}
use Rattle.zio_trace.specs.Leaves.{Store}
use Rattle.zio_trace.specs.Programs.{Deed}
use Rattle.zio_trace.specs.SoundRounds.{work_of}
use Rattle.zio_trace.specs.Tasks.{Leaf, Task, Value}
use Rattle.zio_trace.specs.Underway.{Flight, IsUnderway, State}
use Rattle.zio_spared.specs.Spared.{IsGoodIn}

-- where an operation writes
abbrev pub written_by : Task → List Spot
written_by (Leaf (Store retry bytes spot)) = spot ∷ []
written_by _ = []

-- where writes went that were done, and where those in flight go
abbrev pub spots_written : State → List Spot
spots_written now =
    flat_map (λ (d : Deed (Labelled Task) Value). written_by d.op.op) now.deeds
    ++ flat_map (λ (x : Flight). written_by x.op.op) now.flights

-- each byte that nothing wrote to is as it was, and the others are anything
abbrev pub MayBeLeft : Images → State → Images → Type 0
MayBeLeft before now after = SameOutside (spots_written now) before after

-- at some moment of the round this byte was written, or is being written
pub record IsWrittenIn (t : Terms) (sizes : ℕ → ℕ) (f : Forest) (before : Option Images) (leaf at : ℕ) : Type 0 where
  pub moment : State
  pub under : IsUnderway (work_of t sizes f) before moment
  pub written : IsCovered (spots_written moment) leaf at

-- A copy of the piece that is good in the images, of whose bytes the round writes none at any moment.
pub record HasUnwritten (t : Terms) (sizes : ℕ → ℕ) (f : Forest) (told : Option Images) (before : Images) (c : Copies) : Type 0 where
  pub spot : Spot
  pub listed : Contains (spots_of t.setting c.places) spot
  pub good : IsGoodIn before c spot
  pub unwritten : (at : ℕ) → spot.at ≤ at → at < spot.at + c.len → ¬ IsWrittenIn t sizes f told spot.leaf at

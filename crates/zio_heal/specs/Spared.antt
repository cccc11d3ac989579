-- Operations at pieces that spare a copy: reads and writes of other places, and reads of the copy itself that are
-- answered with its bytes.
use Rattle.std.specs.Prelude.{◌≡◌, ◌≤◌, ◌⊎◌, ℕ, ◌+◌, List, IfOk}
use Rattle.std.specs.List.{AllByRecursion}
use Rattle.zio_cksum.specs.Frames.{spots_of}
use Rattle.zio_cksum.specs.Images.{Setting, Spot}
use Rattle.zio_trace.specs.Tasks.{Find, ReadCopies, TakePlaces, Task, Value, WriteCopies, got}
use Rattle.zio_heal.specs.Copies.{AreElsewhere}

-- on leaves of these sizes each spot lies to its end
abbrev pub LieOn : (ℕ → ℕ) → List Spot → Type 0
LieOn sizes spots = AllByRecursion (λ (t : Spot). t.at + t.span ≤ sizes t.leaf) spots

-- A read of these very copies is answered with these bytes, or with an error.
pub record IsTrueHere (spots read : List Spot) (bytes : List ℕ) (value : Value) : Type 0 where
  pub same : read ≡ spots
  pub gives : IfOk (got value) (λ (given : List ℕ). given ≡ bytes)

-- The operation with its answer spares a copy of these bytes at one of the spots. Of the operations at which the traces
-- of pieces stop, acts of the space change no image; others don't stand there.
abbrev pub SparesBy : (ℕ → ℕ) → Setting → List Spot → List ℕ → Task → Value → Type 0
SparesBy sizes s spots bytes (ReadCopies repair test len places) value =
    LieOn sizes (spots_of s places)
    × (IsTrueHere spots (spots_of s places) bytes value ⊎ AreElsewhere spots (spots_of s places))
SparesBy sizes s spots bytes (WriteCopies given places) value =
    LieOn sizes (spots_of s places) × AreElsewhere spots (spots_of s places)
SparesBy sizes s spots bytes (Find ask) value = Unit {0}
SparesBy sizes s spots bytes (TakePlaces tree) value = Unit {0}
SparesBy sizes s spots bytes _ value = ⊥

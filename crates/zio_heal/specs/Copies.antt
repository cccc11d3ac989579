-- A copy of some bytes at one of several spots of leaves, and what keeps it there.
use Rattle.std.specs.Prelude.{◌≡◌, ◌≤◌, ℕ, List, length, map, false, Contains}
use Rattle.std.specs.List.{AllByRecursion}
use Rattle.zio_types.specs.declared.place.Place.{Place}
use Rattle.zio_faults.specs.declared.table.Row.{Row}
use Rattle.zio_cksum.specs.Blocks.{leaves_of, spot_in}
use Rattle.zio_cksum.specs.Images.{Images, Setting, Spot, bytes_at}
use Rattle.zio_trace.specs.Leaves.{AreClear}
use Rattle.zio_heal.specs.Healed.{turns_stored}

-- where the copies at one place lie, one on each leaf
abbrev pub spots_in : Setting → Place → List Spot
spots_in s p = map (spot_in p) (leaves_of s p)

-- one of the spots has these bytes at its front
pub record HasCopy (spots : List Spot) (bytes : List ℕ) (images : Images) : Type 0 where
  pub spot : Spot
  pub listed : Contains spots spot
  pub there : bytes_at images spot (length bytes) ≡ bytes

-- no spot of the one has a byte in common with one of the other
abbrev pub AreElsewhere : List Spot → List Spot → Type 0
AreElsewhere spots others = AllByRecursion (λ (t : Spot). AllByRecursion (AreClear t) others) spots

-- a write stores the bytes that it was given, or fails
abbrev pub StoresAsGiven : Setting → Type 0
StoresAsGiven s = AllByRecursion (λ (row : Row). turns_stored row ≡ false) s.rows

-- no row is met any more
abbrev pub IsPastFaults : Setting → Type 0
IsPastFaults s = AllByRecursion (λ (row : Row). row.until ≤ s.point) s.rows

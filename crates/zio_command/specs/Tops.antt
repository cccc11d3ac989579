-- The tops of a script over images of known sizes.
use Rattle.std.specs.Prelude.{◌≡◌, ◌≢◌, ◌<◌, ◌≤◌, ℕ, List, ◌∷◌, ◌++◌, length, true}
use Rattle.std.specs.List.{AllByRecursion, flat_map}
use Rattle.zio_types.specs.Places.{is_unit}
use Rattle.zio_faults.specs.Hits.{RowFits}
use Rattle.zio_types.specs.declared.place.TheConstants.{TOP_LEAVES_MAX}
use Rattle.zio_script.specs.declared.limits.TheConstants.{LEAF_MAX, TOPS_MAX}
use Rattle.zio_script.specs.declared.script.Script.{Script}
use Rattle.zio_script.specs.declared.script.TopLine.{TopLine}
use Rattle.zio_trace.specs.TreeOrders.{Pairs}

-- the leaves of these tops, in the script's order
abbrev pub leaves_of : List TopLine → List ℕ
leaves_of tops = flat_map (λ (top : TopLine). top.leaves) tops

-- each leaf has one of so many images
abbrev pub HaveImages : ℕ → List ℕ → Type 0
HaveImages images leaves = AllByRecursion (λ leaf. leaf < images) leaves

-- of these leaves this is the first that has none of so many images
pub record IsFirstMissing (images : ℕ) (leaves : List ℕ) (leaf : ℕ) : Type 0 where
  pub front : List ℕ
  pub behind : List ℕ
  pub leaves_are : leaves ≡ front ++ leaf ∷ behind
  pub named : HaveImages images front
  pub missing : images ≤ leaf

-- the sectors of each top are written by one of the units
abbrev pub HaveUnits : List TopLine → Type 0
HaveUnits tops = AllByRecursion (λ (top : TopLine). is_unit top.unit ≡ true) tops

-- the leaves of one top: one to four, whose numbers are in range
pub record AreTopLeaves (leaves : List ℕ) : Type 0 where
  pub some : 1 ≤ length leaves
  pub few : length leaves ≤ TOP_LEAVES_MAX
  pub each : AllByRecursion (λ leaf. leaf ≤ LEAF_MAX) leaves

-- no two are the same
abbrev pub AllDiffer : List ℕ → Type 0
AllDiffer leaves = Pairs (λ (l m : ℕ). l ≢ m) leaves

-- What a script's `top` and `fault` lines have: units, not too many tops, one to four leaves each, no leaf twice, and rows
-- whose ranges fit.
pub record IsLawfulPool (script : Script) : Type 0 where
  pub units : HaveUnits script.tops
  pub most : length script.tops ≤ TOPS_MAX
  pub leaves : AllByRecursion (λ (top : TopLine). AreTopLeaves top.leaves) script.tops
  pub once : AllDiffer (leaves_of script.tops)
  pub rows : AllByRecursion RowFits script.faults

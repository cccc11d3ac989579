-- What the fields of a block's read owe.
use Rattle.std.specs.Prelude.{◌≡◌, ℕ, ◌≤◌, List, [], length, Option}
use Rattle.zio_blkptr.specs.declared.pointer.Bp.{Bp}
use Rattle.zio_trace.specs.Leaves.{Answer}
use Rattle.zio_frames.specs.Slots.{told_in}
use Rattle.zio_parts.specs.TreeReads.{bodies_out_max, slots_in}
use Rattle.zio_parts.specs.declared.tree_read.Phase.{Phase}
use Rattle.zio_parts.specs.declared.tree_read.Phase.TheVariants.{Found}

-- no body is read before the bodies are found
abbrev pub IsIdle : Phase → List (Option Answer) → Type 0
IsIdle Found results = Unit {0}
IsIdle _ results = results ≡ []

-- how many bodies are out
abbrev pub outs_in : List (Option Answer) → ℕ
outs_in results = length (told_in (slots_in Found results))

pub record ReadFields (phase : Phase) (bodies : List Bp) (results : List (Option Answer)) (out : ℕ) : Type 0 where
  pub idle : IsIdle phase results
  pub within : length results ≤ length bodies
  pub counted : out ≡ outs_in results
  pub few : out ≤ bodies_out_max

-- Several readers of one block, whose operations are made in any order.
use Rattle.std.specs.Prelude.{◌≡◌, ℕ, ◌+◌, ◌≤◌, List, ◌∷◌, ◌++◌, map, false, Contains, ◌⊎◌}
use Rattle.std.specs.List.{AllByRecursion}
use Rattle.zio_faults.specs.declared.table.Row.{Row}
use Rattle.zio_faults.specs.declared.table.FaultKind.{FaultKind}
use Rattle.zio_faults.specs.declared.table.FaultKind.TheVariants.{Eio, Gone, Flip}
use Rattle.zio_cksum.specs.Images.{Images, Setting, Spot}
use Rattle.zio_trace.specs.CopyPrograms.{Program}
use Rattle.zio_trace.specs.Leaves.{Answer, AreClear, LeafOp, on_leaf}
use Rattle.zio_trace.specs.Programs.{Asks, Ends}

abbrev pub TurnsNoBytes : FaultKind → Type 0
TurnsNoBytes Eio = Unit {0}
TurnsNoBytes Gone = Unit {0}
TurnsNoBytes Flip = ⊥

-- no row is for first passes alone, and none turns bytes
abbrev pub RowsArePlain : List Row → Type 0
RowsArePlain rows = AllByRecursion (λ (row : Row). (row.first ≡ false) × TurnsNoBytes row.kind) rows

-- two copies are one, or have no byte in common
abbrev pub CopiesApart : List Spot → Type 0
CopiesApart spots = (t u : Spot) → Contains spots t → Contains spots u → (t ≡ u) ⊎ AreClear t u

-- each copy lies on its leaf and has room for so many bytes
abbrev pub CopiesLie : (ℕ → ℕ) → ℕ → List Spot → Type 0
CopiesLie sizes len spots = AllByRecursion (λ (t : Spot). (len ≤ t.span) × (t.at + t.span ≤ sizes t.leaf)) spots

-- Programs whose operations are made one at a time, the next one always that of any of them: from the images before they
-- end with these answers, and leave the images after.
pub data Interleaved (s : Setting) : List (Program Answer) → Images → List Answer → Images → Type 0 where
  AllEnd : (answers : List Answer) {images : Images} → Interleaved s (map (λ (a : Answer). Ends a) answers) images answers images
  OneDoes : (front rest : List (Program Answer)) (op : LeafOp) (more : Answer → Program Answer) {images after : Images} {answers : List Answer} →
      Interleaved s (front ++ more (on_leaf s op images).value ∷ rest) (on_leaf s op images).images answers after →
      Interleaved s (front ++ Asks op more ∷ rest) images answers after

-- Which operations may be done out of the definitions' order.
use Rattle.std.specs.Prelude.{◌≡◌, ◌≢◌, ℕ, List, [], ◌∷◌, true, Contains, ◌⊎◌}
use Rattle.zio_cksum.specs.Frames.{spots_of}
use Rattle.zio_cksum.specs.Images.{Setting}
pub use Rattle.zio_trace.specs.BlockCopies.{Copies, reading_of}
use Rattle.zio_trace.specs.Conflicts.{TasksApart}
use Rattle.zio_trace.specs.Footprints.{OnSpots}
use Rattle.zio_trace.specs.Labels.{Labelled}
use Rattle.zio_trace.specs.Leaves.{stores}
use Rattle.zio_trace.specs.Tasks.{Leaf, Task}

-- the place of the part whose operation has this place
abbrev pub parent_at : List ℕ → List ℕ
parent_at [] = []
parent_at (n ∷ []) = []
parent_at (n ∷ m ∷ ns) = n ∷ parent_at (m ∷ ns)

-- a write on a leaf
abbrev pub Stores : Task → Type 0
Stores (Leaf op) = stores op ≡ true
Stores _ = ⊥

-- of one part only writes are out together
abbrev pub OutTogether : Labelled Task → Labelled Task → Type 0
OutTogether x y = parent_at x.at ≡ parent_at y.at → Stores x.op × Stores y.op

-- for two readers, on the copies of one of these pieces
abbrev pub ReadTogether : Setting → List Copies → Labelled Task → Labelled Task → Type 0
ReadTogether s shared x y =
    (parent_at x.at ≢ parent_at y.at)
    × ((c : Copies) × Contains shared c × OnSpots (spots_of s c.places) c.len x.op × OnSpots (spots_of s c.places) c.len y.op)

-- The first may be done before the second, which the definitions have earlier: they don't conflict, or two readers of one
-- piece do them.
abbrev pub Passes : Setting → List Copies → Labelled Task → Labelled Task → Type 0
Passes s shared x y = (TasksApart x.op y.op × OutTogether x y) ⊎ ReadTogether s shared x y

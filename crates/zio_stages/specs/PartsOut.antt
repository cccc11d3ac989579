-- Operations of a plan that are out and are parts of the work, beside which any other may be asked.
use Rattle.std.specs.Prelude.{List, [], ◌∷◌}
use Rattle.zio_trace.specs.Tasks.{Find, Leaf, TakePlaces, Task}
use Rattle.zio_frames.specs.Slots.{Heard, IsOut, Slot}

-- it isn't an operation on a leaf, or an act of the space
abbrev pub IsPartOp : Task → Type 0
IsPartOp (Leaf act) = ⊥
IsPartOp (Find a) = ⊥
IsPartOp (TakePlaces tree) = ⊥
IsPartOp _ = Unit {0}

-- each of these that is out is a part
abbrev pub ArePartsOut : List Task → List Slot → Type 0
ArePartsOut [] slots = Unit {0}
ArePartsOut (q ∷ asked) [] = Unit {0}
ArePartsOut (q ∷ asked) (Heard v ∷ slots) = ArePartsOut asked slots
ArePartsOut (q ∷ asked) (IsOut told ∷ slots) = IsPartOp q × ArePartsOut asked slots

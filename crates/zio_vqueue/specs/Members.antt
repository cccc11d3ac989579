-- A member of a group, and its bytes within the span.
use Rattle.std.specs.Prelude.{◌+◌, ◌≤◌, List, [], ◌∷◌, Bool, false}
use Rattle.zio_vqueue.specs.declared.op.Op.{Op}
use Rattle.zio_vqueue.specs.declared.op.Group.{Group}

-- an operation's range is within a group's
abbrev pub LiesIn : Group → Op → Type 0
LiesIn group o = (group.at ≤ o.at) × (o.at + o.len ≤ group.at + group.len)

-- the members of a group write
abbrev pub is_write : List Op → Bool
is_write [] = false
is_write (o ∷ os) = o.write

-- A gang's member that is written, as a node.
use Rattle.std.specs.Prelude.{◌≡◌, ℕ, ◌+◌, ◌<◌, ◌≤◌, List, [], ◌∷◌, ◌++◌, length, Option, Some, None, false, slice_get}
use Rattle.zio_types.specs.declared.error.Errno.{Errno}
use Rattle.zio_types.specs.declared.place.Top.{Top}
use Rattle.zio_gang.specs.Attempts.{Terms}
use Rattle.zio_trace.specs.Leaves.{Answer, error_of}
use Rattle.zio_trace.specs.Tasks.{Got, StoredAs, Task, Value}
use Rattle.zio_frames.specs.Frames.{Child, Stack, fresh_stack}
use Rattle.zio_frames.specs.Seats.{IsSeated}
use Rattle.zio_parts.specs.Parts.{PartWriting}
use Rattle.zio_parts.specs.declared.members.Member.{Member as MemberNow}
use Rattle.zio_parts.specs.declared.members.Member.TheVariants.{Out as MemberOut}
use Rattle.zio_parts.specs.declared.parts.StoredPart.{StoredPart}
use Rattle.zio_exchange.specs.Outcomes.{IsKept, IsPart, IsReading, stored_as}
use Rattle.zio_stages.specs.OwnParts.{HearsValue}
use Rattle.zio_stages.specs.PartOwns.{WrittenPart, part_task}
use Rattle.zio_stages.specs.PartWorks.{Front, IsPartAt, IsPartOver}
use Rattle.zio_stages.specs.declared.part_node.PartNode.{PartNode}

-- nothing stands in front of the part
abbrev pub no_front : WrittenPart → Front
no_front o = record { part = part_task o; asked = []; slots = [] }

-- The node's part is the write of a part, which is so far.
pub record IsPartNode (t : Terms) (node : PartNode) (st : Stack) : Type 0 where
  pub part : WrittenPart
  pub at : IsPartAt t node.work node.family (no_front part) part st

abbrev pub IsPartNodeOver : List Top → PartNode → Type 0
IsPartNodeOver tops node = IsPartOver tops node.work node.family

-- ---- its places and its members

-- nothing of the child's task is done
abbrev pub IsFreshPart : Terms → PartNode → Task → Type 0
IsFreshPart t node op = IsPartNode t node (fresh_stack op)

-- the part's members with one more, which is out
abbrev pub with_member : List MemberNow → List MemberNow
with_member members = members ++ MemberOut ∷ []

-- nothing is done of a member of this part, which is one level below, and the part has three at most
pub record IsMemberUnder (x : PartWriting) (child : PartNode) : Type 0 where
  pub below : length child.work.own.part.path ≡ length x.path + 1
  pub deep : length x.path < 8
  pub few : length x.members ≤ 3
  pub begun : child.work.own.part.members ≡ []
  pub none : child.work.io ≡ None

-- ---- what it hears

-- some part that it may be, whose child of this number hasn't told
pub record HearsEarlyAt (node : PartNode) (n : ℕ) : Type 0 where
  pub terms : Terms
  pub stack : Stack
  pub child : Child
  pub is : IsPartNode terms node stack
  pub seated : IsSeated stack
  pub there : slice_get stack.children n ≡ Some child
  pub goes : child.ended ≡ false
  pub untold : child.told ≡ false

-- some part that it may be, whose child of this number, which did such an operation, ended with such a value
pub record HearsValueAt (IsHeard : Task → Value → Type 0) (node : PartNode) (n : ℕ) : Type 0 where
  pub terms : Terms
  pub tops : List Top
  pub stack : Stack
  pub child : Child
  pub op : Task
  pub value : Value
  pub is : IsPartNode terms node stack
  pub hears : HearsValue terms tops stack n child op value
  pub heard : IsHeard op value

-- a part's write ended with what this is
abbrev pub IsStoredBy : StoredPart → Task → Value → Type 0
IsStoredBy stored op v = IsPart op × (v ≡ StoredAs (stored_as stored)) × IsKept stored.pointer stored.heads

-- an operation on a leaf ended with this error or none
abbrev pub IsAnsweredBy : Option Errno → Task → Value → Type 0
IsAnsweredBy error op v = IsReading op × ((a : Answer) × (v ≡ Got a) × (error_of a ≡ error))

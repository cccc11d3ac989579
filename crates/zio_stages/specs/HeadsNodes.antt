-- The walk over a block's headers, or over a claim's, as a node that does all of it by children.
use Rattle.std.specs.Prelude.{◌≡◌, ℕ, suc, ◌≤◌, List, length, slice_get, Bool, true, false, Option, Some, None, IfSome, IsTrue}
use Rattle.std.specs.List.{AllByRecursion}
use Rattle.zio_types.specs.declared.place.Place.{Place}
use Rattle.zio_types.specs.declared.place.Top.{Top}
use Rattle.zio_types.specs.Places.{sector_size}
use Rattle.zio_blkptr.specs.declared.pointer.Bp.{Bp}
use Rattle.zio_blkptr.specs.Pointers.{places_of, valid}
use Rattle.zio_cksum.specs.Headers.{members_of}
use Rattle.zio_gang.specs.declared.tree.Head.{Head}
use Rattle.zio_gang.specs.Attempts.{Terms}
use Rattle.zio_gang.specs.Trees.{kept_at}
use Rattle.zio_trace.specs.Leaves.{Answer}
use Rattle.zio_trace.specs.Tasks.{Got, Task, Value, Walked, WalkedBy}
use Rattle.zio_frames.specs.Frames.{Child, Frame, Stack}
use Rattle.zio_frames.specs.Seats.{IsSeated}
use Rattle.zio_frames.specs.Slots.{Slot}
use Rattle.zio_parts.specs.Copies.{leaves_at}
use Rattle.zio_parts.specs.HeadWalks.{named_by, slots_of}
use Rattle.zio_parts.specs.declared.head_walk.Header.{Header}
use Rattle.zio_parts.specs.declared.head_walk.Header.TheVariants.{Unread}
use Rattle.zio_exchange.specs.Outcomes.{ClaimsInside, IsReading, IsWalk}
use Rattle.zio_stages.specs.HeadsWorks.{IsHeadsWork, claim_error}
use Rattle.zio_stages.specs.OwnParts.{HearsValue, ToldSince}
use Rattle.zio_stages.specs.Tops.{AreTops}
use Rattle.zio_stages.specs.declared.heads.HeadsWork.{HeadsWork}
use Rattle.zio_stages.specs.declared.heads_node.HeadsNode.{HeadsNode}

-- ---- as a node

-- the part, where these are its slots
abbrev pub with_slots : Frame → List Slot → Frame
with_slots x slots = record { op = x.op; asked = x.asked; slots = slots }

-- The node's own part is the walk, nothing is within it, and its children do what it asked, some of which told since that they
-- have no pointer. Of a walk below a member that was heard all places lie inside the tops, where it is a claim's and met no error.
pub record IsHeadsNode (t : Terms) (node : HeadsNode) (st : Stack) : Type 0 where
  pub children : node.family ≡ st.children
  pub alone : st.inner ≡ None
  pub begun : List Slot
  pub since : ToldSince begun st.outer.slots
  pub part : IsHeadsWork t node.work (with_slots st.outer begun)
  pub inside : (n : ℕ) (op : Task) (left : Walked) → slice_get st.outer.asked (suc n) ≡ Some op →
      slice_get node.work.walk.members n ≡ Some (Some left) → ClaimsInside t op left

-- ---- its fields

-- the place lies on a top with one to four leaves
pub record HasLeaves (tops : List Top) (p : Place) : Type 0 where
  pub least : 1 ≤ length (leaves_at tops p)
  pub most : length (leaves_at tops p) ≤ 4

-- each place of the pointer does
abbrev pub LiesOn : List Top → Bp → Type 0
LiesOn tops bp = AllByRecursion (HasLeaves tops) (places_of bp)

-- the pointers of a header's members do
abbrev pub IsHeadOn : List Top → Head → Type 0
IsHeadOn tops h = AllByRecursion (LiesOn tops) (members_of h.bytes)

-- once the header is asked for, what is kept of it has its size
abbrev pub IsSized : Header → Option (List ℕ) → Type 0
IsSized Unread kept = Unit {0}
IsSized _ kept = IfSome kept (λ (bytes : List ℕ). length bytes ≡ sector_size)

-- Of the walk of a block: its pointer lies on the tops, and so do those of all members that it may come to.
pub record IsKeptOver (tops : List Top) (w : HeadsWork) : Type 0 where
  pub bp : LiesOn tops w.walk.bp
  pub heads : AllByRecursion (IsHeadOn tops) w.heads.items
  pub members : AllByRecursion (LiesOn tops) (named_by w.walk.header)
  pub sized : IsSized w.walk.header (kept_at w.heads.items w.walk.path)

-- Of a claim's walk: these are tops, and a pointer without error is inside them.
pub record IsClaimOver (tops : List Top) (w : HeadsWork) : Type 0 where
  pub are_tops : AreTops tops
  pub judged : w.walk.judged ≡ claim_error tops w.walk.bp

abbrev pub IsWalkOver : Bool → List Top → HeadsWork → Type 0
IsWalkOver true tops w = IsClaimOver tops w
IsWalkOver false tops w = IsKeptOver tops w

-- what its fields owe to each other and to the tops
pub record IsHeadsOver (tops : List Top) (node : HeadsNode) : Type 0 where
  pub valid : IsTrue (valid node.work.walk.bp)
  pub walk : IsWalkOver node.work.walk.claim tops node.work
  pub named : node.name.path ≡ node.work.walk.path
  pub count : length node.family ≡ length (slots_of node.work.walk)

-- ---- its children

-- its header's read, and a walk below each of three members
abbrev pub walk_kids_max : ℕ
walk_kids_max = 4

-- ---- what it hears

-- The child of this number, whose operation is a read of copies, ended with these bytes, or with an error.
pub record HearsHead (t : Terms) (tops : List Top) (node : HeadsNode) (st : Stack) (n : ℕ) (c : Child) (op : Task) (v : Value) (found : Answer) : Type 0 where
  pub node_is : IsHeadsNode t node st
  pub hears : HearsValue t tops st n c op v
  pub of_op : IsReading op
  pub value_is : v ≡ Got found

-- The child of this number, whose operation is a walk, ended and left this.
pub record HearsBelow (t : Terms) (tops : List Top) (node : HeadsNode) (st : Stack) (n : ℕ) (c : Child) (op : Task) (v : Value) (left : Walked) : Type 0 where
  pub node_is : IsHeadsNode t node st
  pub hears : HearsValue t tops st n c op v
  pub of_op : IsWalk op
  pub value_is : v ≡ WalkedBy left
  pub inside : ClaimsInside t op left

-- some walk that it may be, whose child of this number hasn't told
pub record HearsSomeUntold (node : HeadsNode) (n : ℕ) : Type 0 where
  pub terms : Terms
  pub stack : Stack
  pub child : Child
  pub is : IsHeadsNode terms node stack
  pub seated : IsSeated stack
  pub there : slice_get stack.children n ≡ Some child
  pub goes : child.ended ≡ false
  pub untold : child.told ≡ false

pub record HearsSomeHead (tops : List Top) (node : HeadsNode) (n : ℕ) (found : Answer) : Type 0 where
  pub terms : Terms
  pub stack : Stack
  pub child : Child
  pub op : Task
  pub value : Value
  pub hears : HearsHead terms tops node stack n child op value found

pub record HearsSomeBelow (tops : List Top) (node : HeadsNode) (n : ℕ) (left : Walked) : Type 0 where
  pub terms : Terms
  pub stack : Stack
  pub child : Child
  pub op : Task
  pub value : Value
  pub hears : HearsBelow terms tops node stack n child op value left

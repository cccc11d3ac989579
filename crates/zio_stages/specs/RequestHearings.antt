-- What a request hears of its children, those of its own work and those that are attempts.
use Rattle.std.specs.Prelude.{◌≡◌, ℕ, List, Option, Some, false, slice_get}
use Rattle.zio_types.specs.declared.place.Top.{Top}
use Rattle.zio_types.specs.declared.request.ChildKind.{ChildKind}
use Rattle.zio_blkptr.specs.declared.pointer.Bp.{Bp}
use Rattle.zio_gang.specs.Attempts.{Pending, Terms}
use Rattle.zio_trace.specs.Families.{Forest}
use Rattle.zio_trace.specs.Tasks.{Attempt, AttemptedBy, One, Task, Value}
use Rattle.zio_children.specs.RequestKids.{numbers_of, state_at}
use Rattle.zio_children.specs.declared.kids.KidState.TheVariants.{Told}
use Rattle.zio_frames.specs.Frames.{Child, Stack}
use Rattle.zio_frames.specs.Seats.{IsSeated}
use Rattle.zio_exchange.specs.Outcomes.{IsAttempt}
use Rattle.zio_stages.specs.OwnParts.{HearsValue}
use Rattle.zio_stages.specs.RequestNodes.{IsRequestNode, IsSeatOf}
use Rattle.zio_stages.specs.declared.request_node.Own.{Own}
use Rattle.zio_stages.specs.declared.request_node.Own.TheVariants.{Claim, Due, Found, Free, Over, Read, Stored, Write}
use Rattle.zio_stages.specs.declared.request_node.RequestNode.{RequestNode}

-- some attempt that it may be in, in which its child of this number, which is of this kind, hasn't told
pub record HearsEarlyOf (kind : ChildKind) (r : RequestNode) (n : ℕ) : Type 0 where
  pub terms : Terms
  pub stack : Stack
  pub child : Child
  pub is : IsRequestNode terms r stack
  pub seated : IsSeated stack
  pub there : slice_get stack.children n ≡ Some child
  pub of_kind : child.kind ≡ kind
  pub goes : child.ended ≡ false
  pub untold : child.told ≡ false

-- some attempt that it may be in, whose child of this number, which did such an operation, ended with such a value
pub record HearsValueOf (IsHeard : Task → Value → Type 0) (r : RequestNode) (n : ℕ) : Type 0 where
  pub terms : Terms
  pub tops : List Top
  pub stack : Stack
  pub child : Child
  pub op : Task
  pub value : Value
  pub is : IsRequestNode terms r stack
  pub hears : HearsValue terms tops stack n child op value
  pub heard : IsHeard op value

-- it isn't an attempt of a child's tree
abbrev pub IsNoAttempt : Task → Value → Type 0
IsNoAttempt op v = IsAttempt op → ⊥

-- some of its own work was begun and isn't over
abbrev pub IsUnderWay : Own → Type 0
IsUnderWay Due = ⊥
IsUnderWay (Write w) = Unit {0}
IsUnderWay (Stored b) = ⊥
IsUnderWay (Read w) = Unit {0}
IsUnderWay (Free w) = Unit {0}
IsUnderWay (Claim w) = Unit {0}
IsUnderWay (Found own) = ⊥
IsUnderWay Over = ⊥

-- an attempt ended with what it left
abbrev pub IsAttemptedBy : One → Task → Value → Type 0
IsAttemptedBy one op v = IsAttempt op × (v ≡ AttemptedBy one)

-- The child's operation is the attempt of the tree at its place, and it told this pointer.
pub record IsKidTold (r : RequestNode) (child : ℕ) (op : Task) (pointer : Option Bp) : Type 0 where
  pub place : ℕ
  pub root : Pending
  pub below : Forest
  pub is : op ≡ Attempt r.attempt root below
  pub seat : IsSeatOf r.family child place
  pub number : slice_get (numbers_of r.kids.kids.kids) place ≡ Some root.request.number
  pub state : state_at r.kids.kids.kids place ≡ Some (Told pointer)

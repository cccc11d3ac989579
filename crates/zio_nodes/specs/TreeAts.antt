-- A tree of requests whose attempt is to begin, and what it owes the tops.
use Rattle.std.specs.Prelude.{◌≡◌, ℕ, ◌+◌, ◌<◌, List, length, Bool, true, false}
use Rattle.std.specs.List.{AllByRecursion}
use Rattle.zio_types.specs.declared.place.Top.{Top}
use Rattle.zio_types.specs.declared.request.Kind.{Kind}
use Rattle.zio_types.specs.declared.request.Kind.TheVariants.{Null, Read, Write, Free, Claim}
use Rattle.zio_script.specs.Requests.{kind_of}
use Rattle.zio_script.specs.Whys.{is_write}
use Rattle.zio_gang.specs.Attempts.{Pending, Terms}
use Rattle.zio_trace.specs.Families.{Forest}
use Rattle.zio_trace.specs.Tasks.{Attempt}
use Rattle.zio_frames.specs.Frames.{Stack, fresh_stack}
use Rattle.zio_exchange.specs.Wholes.{IsTreeOf}
use Rattle.zio_exchange.specs.declared.waiting.UnfinishedRequest.{UnfinishedRequest}
use Rattle.zio_stages.specs.KidPointers.{HasValid}
use Rattle.zio_stages.specs.PartWorks.{HaveUnits}
use Rattle.zio_stages.specs.RequestOwns.{IsWaitingOver}
use Rattle.zio_stages.specs.Tops.{AreTops}
use Rattle.zio_stages.specs.WrittenBlocks.{IsSoundWrite}
use Rattle.zio_nodes.specs.declared.tree_at.TreeAt.{TreeAt}

-- ---- what a tree owes

-- of these kinds a request has no children
abbrev pub is_childless : Kind → Bool
is_childless Null = false
is_childless Read = false
is_childless Write = false
is_childless Free = true
is_childless Claim = true

-- A write is in its ranges, and no larger than a block with a pointer for each of so many children; and a free or a claim has none.
pub record IsSoundOver (children : ℕ) (w : UnfinishedRequest) : Type 0 where
  pub write : is_write (kind_of w.request.work) ≡ true → IsSoundWrite children w
  pub alone : is_childless (kind_of w.request.work) ≡ true → children ≡ 0

-- The block that the request names lies on the tops, the children that it keeps have valid pointers, and it is sound over all of
-- its children.
pub record IsRequestInside (tops : List Top) (w : UnfinishedRequest) : Type 0 where
  pub over : IsWaitingOver tops w
  pub kept : AllByRecursion HasValid w.kept
  pub sound : IsSoundOver (w.unfinished + length w.kept) w

-- Tops on which each of the requests may be attempted.
pub record IsTreeOver (tops : List Top) (ws : List UnfinishedRequest) : Type 0 where
  pub tops_are : AreTops tops
  pub units : HaveUnits tops
  pub each : AllByRecursion (IsRequestInside tops) ws

-- ---- its attempt

-- The node's part is the attempt of this tree, of which nothing is done.
pub record IsTreeAt (t : Terms) (at : TreeAt) (st : Stack) : Type 0 where
  pub root : Pending
  pub below : Forest
  pub tree : IsTreeOf at.whole root below
  pub fresh : st ≡ fresh_stack (Attempt at.attempt root below)
  pub round : t.round ≡ at.round
  pub failmode : t.failmode ≡ at.failmode

-- what its fields owe to each other and to the tops
pub record IsTreeAtOver (tops : List Top) (at : TreeAt) : Type 0 where
  pub few : at.attempt < 4
  pub tree : IsTreeOver tops at.whole

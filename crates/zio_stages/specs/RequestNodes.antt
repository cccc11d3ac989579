-- A request in an attempt as a node: its children stand first, its own work behind them.
use Rattle.std.specs.Prelude.{◌≡◌, ℕ, List, [], ◌∷◌, ◌++◌, true, Option, Some, None, option_map, slice_get}
use Rattle.zio_types.specs.declared.error.Errno.{Errno}
use Rattle.zio_types.specs.declared.request.Bits.{Bits}
use Rattle.zio_blkptr.specs.declared.pointer.Bp.{Bp}
use Rattle.zio_gang.specs.Attempts.{Child, Ended, Pending, Terms, has_bits, no_bits, tree_unless}
use Rattle.zio_trace.specs.Families.{Forest, NoTrees}
use Rattle.zio_trace.specs.Plans.{plan_own}
use Rattle.zio_trace.specs.Programs.{Ends}
use Rattle.zio_trace.specs.Tasks.{Attempt, AttemptedBy, One, OwnGot, Task}
use Rattle.zio_children.specs.RequestKids.{KidsUnderWay, kids_by, pointers_of, state_at}
use Rattle.zio_children.specs.declared.kids.KidState.{KidState}
use Rattle.zio_frames.specs.Frames.{Child as StackChild, OfOuter, Stack, asking}
use Rattle.zio_frames.specs.Moves.{AsksNext, IsEnded, handed}
use Rattle.zio_frames.specs.Slots.{AllHeard, Slot, left_behind_slots}
use Rattle.zio_exchange.specs.Wholes.{IsLeft}
use Rattle.zio_stages.specs.ClosedRequests.{Again, Closed, Finished}
use Rattle.zio_stages.specs.KidTrees.{IsKids}
pub use Rattle.zio_stages.specs.OwnFounds.{own_got}
use Rattle.zio_exchange.specs.Waits.{pending_of}
use Rattle.zio_exchange.specs.Wholes.{IsTreeOf, root_number}
use Rattle.zio_exchange.specs.declared.waiting.UnfinishedRequest.{UnfinishedRequest}
use Rattle.zio_stages.specs.NodeIos.{NoneSits}
use Rattle.zio_stages.specs.OwnClaims.{IsClaimOver}
use Rattle.zio_stages.specs.OwnWrites.{IsWriteOwn}
use Rattle.zio_stages.specs.PartWorks.{Front, IsPartOver}
use Rattle.zio_stages.specs.RequestOwns.{IsClaimOwn, IsFoundOwn, IsFreeOwn, IsReadOwn, IsReadingOver}
use Rattle.zio_stages.specs.StoredBlocks.{IsGoingBack, IsStoredOwn}
use Rattle.zio_types.specs.declared.place.Top.{Top}
use Rattle.zio_stages.specs.declared.family.Layer.TheVariants.{Within}
use Rattle.zio_stages.specs.WrittenBlocks.{HaveAllTold}
use Rattle.zio_stages.specs.declared.request_node.Own.{Own}
use Rattle.zio_stages.specs.declared.request_node.Own.TheVariants.{Claim, Due, Found, Free, Over, Read, Stored, Write}
use Rattle.zio_stages.specs.declared.request_node.RequestNode.{RequestNode}

-- ---- how far it is

-- the attempt, in which the operations for its children stand in front of its own work
abbrev pub front_by : RequestNode → Forest → List Task → List Slot → Front
front_by r forest asked slots = record { part = Attempt r.attempt (pending_of r.waiting) forest; asked = asked; slots = slots }

-- All of its own work is heard, and what it came to is no longer here.
pub record IsOver (x : KidsUnderWay) (slots : List Slot) (st : Stack) : Type 0 where
  pub told : HaveAllTold x
  pub alone : st.inner ≡ None
  pub heard : AllHeard slots

-- behind these children its own work is so far: these were asked for it
abbrev pub IsOwnOf : Terms → RequestNode → KidsUnderWay → Front → Own → Stack → List Task → List Slot → Type 0
IsOwnOf t r x f Due st asked slots = (asked ≡ []) × (slots ≡ []) × (st.inner ≡ None)
IsOwnOf t r x f (Write w) st asked slots = IsWriteOwn t w f r.attempt (pending_of r.waiting) x asked slots st
IsOwnOf t r x f (Stored b) st asked slots = IsStoredOwn t (own_got b.own) r.attempt (pending_of r.waiting) x asked slots st
IsOwnOf t r x f (Read w) st asked slots = IsReadOwn t w f (pending_of r.waiting) x asked slots st
IsOwnOf t r x f (Free w) st asked slots = IsFreeOwn w f (pending_of r.waiting) x asked slots st
IsOwnOf t r x f (Claim w) st asked slots = IsClaimOwn w f (pending_of r.waiting) x asked slots st
IsOwnOf t r x f (Found own) st asked slots = IsFoundOwn t (own_got own) r.attempt (pending_of r.waiting) x asked slots st
IsOwnOf t r x f Over st asked slots = IsOver x slots st

-- It is so far in an attempt of its request.
pub record IsRequestNode (t : Terms) (r : RequestNode) (st : Stack) : Type 0 where
  pub forest : Forest
  pub kid_asked : List Task
  pub kid_slots : List Slot
  pub own_asked : List Task
  pub own_slots : List Slot
  pub op : st.outer.op ≡ Attempt r.attempt (pending_of r.waiting) forest
  pub asked : st.outer.asked ≡ kid_asked ++ own_asked
  pub slots : st.outer.slots ≡ kid_slots ++ own_slots
  pub kids : IsKids r.kids r.attempt forest kid_asked kid_slots
  pub kept : r.kids.kids.kept ≡ r.waiting.kept
  pub own : IsOwnOf t r r.kids.kids (front_by r forest kid_asked kid_slots) r.own st own_asked own_slots
  pub family : r.family ≡ st.children
  pub round : t.round ≡ r.round
  pub failmode : t.failmode ≡ r.failmode

-- ---- its children

-- The attempt of this tree is asked next, and is handed to a child.
pub record HandsKid (t : Terms) (now : RequestNode) (ws : List UnfinishedRequest) (st : Stack) : Type 0 where
  pub root : Pending
  pub below : Forest
  pub tree : IsTreeOf ws root below
  pub asks : AsksNext t (asking st) (Attempt now.attempt root below)
  pub after : IsRequestNode t now (handed st (Attempt now.attempt root below))

-- the child sits there
abbrev pub IsSeatOf : List StackChild → ℕ → ℕ → Type 0
IsSeatOf family child place = option_map (λ (c : StackChild). c.seat) (slice_get family child) ≡ Some (OfOuter place)

-- The child attempts the tree of this place, and is so far.
pub record IsKidAt (P : Option KidState → Type 0) (r : RequestNode) (child : ℕ) : Type 0 where
  pub place : ℕ
  pub seat : IsSeatOf r.family child place
  pub state : P (state_at r.kids.kids.kids place)

-- ---- what becomes of it

-- what its children told and left is what its own work goes on from, and it came to this
pub record OwnEnds (t : Terms) (r : RequestNode) (st : Stack) (own : OwnGot) (h : IsRequestNode t r st) : Type 0 where
  pub alone : st.inner ≡ None
  pub heard : AllHeard h.own_slots
  pub value : left_behind_slots h.own_slots (plan_own t r.attempt (pending_of r.waiting) r.waiting.request.work (pointers_of r.kids.kids)) ≡ Ends own

abbrev pub left_child : UnfinishedRequest → Option Errno → Option Bp → Child
left_child w error pointer = record { number = w.request.number; error = error; pointer = pointer }

-- It finished with this error or none, behind these that finished among its children's trees.
pub record IsFinished (w : UnfinishedRequest) (before : List Ended) (error : Option Errno) (own : OwnGot) (one : One) : Type 0 where
  pub bits : one.return.bits ≡ no_bits
  pub child : one.return.child ≡ left_child w error own.pointer
  pub ended : one.ended ≡ before ++ record { request = w.request; error = error; bytes = own.bytes; tree = tree_unless error own.tree } ∷ []
  pub again : one.again ≡ []
  pub left : one.left ≡ NoTrees

-- It goes again with these bits, and this tree is left.
pub record GoesAgain (w : UnfinishedRequest) (before : List Ended) (bits : Bits) (ws : List UnfinishedRequest) (own : OwnGot) (one : One) : Type 0 where
  pub same : one.return.bits ≡ bits
  pub some : has_bits bits ≡ true
  pub child : one.return.child ≡ left_child w None own.pointer
  pub ended : one.ended ≡ before
  pub left : IsLeft ws one
  pub number : root_number ws ≡ Some w.request.number

abbrev pub IsClosedAs : Closed → RequestNode → List Ended → One → Type 0
IsClosedAs (Finished waiting error own) r before one = (waiting ≡ r.waiting) × IsFinished r.waiting before error (own_got own) one
IsClosedAs (Again bits whole own) r before one = GoesAgain r.waiting before bits whole (own_got own) one

-- the attempt ends with this
pub record Closes (t : Terms) (r : RequestNode) (st : Stack) (h : IsRequestNode t r st) (closed : Closed) : Type 0 where
  pub one : One
  pub value : IsEnded t st (AttemptedBy one)
  pub shows : IsClosedAs closed r (kids_by h.kid_slots).ended one

-- ---- what its fields owe

-- its own work to the tops and to its children
abbrev pub IsOwnOver : List Top → Own → List StackChild → Type 0
IsOwnOver tops Due family = NoneSits Within family
IsOwnOver tops (Write w) family = IsPartOver tops w.work family
IsOwnOver tops (Stored b) family = NoneSits Within family × IsGoingBack b
IsOwnOver tops (Read w) family = IsReadingOver tops w family
IsOwnOver tops (Free w) family = NoneSits Within family
IsOwnOver tops (Claim w) family = NoneSits Within family × IsClaimOver tops w
IsOwnOver tops (Found own) family = NoneSits Within family
IsOwnOver tops Over family = NoneSits Within family

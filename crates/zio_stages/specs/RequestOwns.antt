-- A read's, a free's and a claim's own work in an attempt: it stands behind the operations for the request's children, once these
-- were all handed out.
use Rattle.std.specs.Prelude.{◌≡◌, ℕ, ◌+◌, List, length, slice_get, false, Option, Some, None, IfSome, IsTrue, option_map}
use Rattle.std.specs.List.{AllByRecursion}
use Rattle.zio_types.specs.declared.error.Errno.{Errno}
use Rattle.zio_types.specs.declared.place.Top.{Top}
use Rattle.zio_types.specs.declared.request.Prio.{Prio}
use Rattle.zio_blkptr.specs.declared.pointer.Bp.{Bp}
use Rattle.zio_blkptr.specs.Pointers.{pointer_of, valid}
use Rattle.zio_script.specs.declared.script.Work.{Work}
use Rattle.zio_script.specs.declared.script.Work.TheVariants.{Read, Free, Claim}
use Rattle.zio_gang.specs.declared.tree.Tree.{Tree}
use Rattle.zio_gang.specs.Attempts.{Pending, Terms}
use Rattle.zio_trace.specs.BlockCopies.{Copies, body_copies, groups_of}
use Rattle.zio_trace.specs.Plans.{plan_own}
use Rattle.zio_trace.specs.Programs.{Ends}
use Rattle.zio_trace.specs.Tasks.{OwnGot, Task}
use Rattle.zio_children.specs.RequestKids.{KidsUnderWay}
use Rattle.zio_frames.specs.Frames.{Child, OfOuter, Stack}
use Rattle.zio_frames.specs.Slots.{AllHeard, Slot, left_behind_slots}
use Rattle.zio_exchange.specs.Outcomes.{IsNoAttemptIn, places_in}
use Rattle.zio_exchange.specs.declared.waiting.UnfinishedRequest.{UnfinishedRequest}
use Rattle.zio_stages.specs.HeadsNodes.{IsHeadOn, LiesOn}
use Rattle.zio_stages.specs.OwnClaims.{IsOwnClaim}
use Rattle.zio_stages.specs.OwnFrees.{IsOwnFree}
use Rattle.zio_stages.specs.OwnParts.{IsNoWrite}
use Rattle.zio_stages.specs.OwnReads.{IsBodyOn, IsOwnRead, IsOwnReadOver}
use Rattle.zio_stages.specs.PartWorks.{Front}
use Rattle.zio_stages.specs.StoredBlocks.{block_places}
use Rattle.zio_stages.specs.declared.own_claim.OwnClaim.{OwnClaim}
use Rattle.zio_stages.specs.declared.own_free.OwnFree.{OwnFree}
use Rattle.zio_stages.specs.declared.own_read.OwnRead.{OwnRead}
use Rattle.zio_stages.specs.declared.request_node.RequestNode.{RequestNode}

-- ---- how far it is

-- The request reads its block, and the read is so far.
pub record IsReadOwn (t : Terms) (w : OwnRead) (f : Front) (p : Pending) (x : KidsUnderWay) (asked : List Task) (slots : List Slot) (st : Stack) : Type 0 where
  pub all : x.handed ≡ length x.kids
  pub name : List ℕ
  pub prio : Prio
  pub work : p.request.work ≡ Read name prio
  pub tree : Tree
  pub block : p.block ≡ Some tree
  pub is : IsOwnRead t w st.children tree f.asked f.slots st
  pub asked_are : is.asked ≡ asked
  pub slots_are : is.slots ≡ slots

-- The request frees its block, and the walk over its headers is so far.
pub record IsFreeOwn (w : OwnFree) (f : Front) (p : Pending) (x : KidsUnderWay) (asked : List Task) (slots : List Slot) (st : Stack) : Type 0 where
  pub all : x.handed ≡ length x.kids
  pub name : List ℕ
  pub work : p.request.work ≡ Free name
  pub tree : Tree
  pub block : p.block ≡ Some tree
  pub is : IsOwnFree w.walk st.children tree f.asked f.slots st
  pub asked_are : is.asked ≡ asked
  pub slots_are : is.slots ≡ slots

-- The request claims what these bytes point to, and the claim is so far.
pub record IsClaimOwn (w : OwnClaim) (f : Front) (p : Pending) (x : KidsUnderWay) (asked : List Task) (slots : List Slot) (st : Stack) : Type 0 where
  pub all : x.handed ≡ length x.kids
  pub name : List ℕ
  pub bytes : List ℕ
  pub work : p.request.work ≡ Claim name bytes
  pub is : IsOwnClaim w st.children (pointer_of bytes) f.asked f.slots st
  pub asked_are : is.asked ≡ asked
  pub slots_are : is.slots ≡ slots

-- where it failed there is none
abbrev pub IsNoneAfter : Option Errno → Option Tree → Type 0
IsNoneAfter None tree = Unit {0}
IsNoneAfter (Some e) tree = tree ≡ None

-- a claim alone makes a block, where it doesn't fail
abbrev pub MakesBlock : Work → OwnGot → Type 0
MakesBlock (Claim name bytes) own = IsNoneAfter own.error own.tree
MakesBlock _ own = own.tree ≡ None

-- All of it is heard, and it came to this, whichever pointers its children told. It heard of no attempt, and the places that it took
-- are those of its block.
pub record IsFoundOwn (t : Terms) (own : OwnGot) (attempt : ℕ) (p : Pending) (x : KidsUnderWay) (asked : List Task) (slots : List Slot)
    (st : Stack) : Type 0 where
  pub all : x.handed ≡ length x.kids
  pub other : IsNoWrite p.request.work
  pub alone : st.inner ≡ None
  pub heard : AllHeard slots
  pub quiet : AllByRecursion IsNoAttemptIn slots
  pub places : places_in asked slots ≡ block_places own.tree
  pub block : MakesBlock p.request.work own
  pub value : (pointers : List (Option Bp)) → left_behind_slots slots (plan_own t attempt p p.request.work pointers) ≡ Ends own

-- ---- its children

-- the child sits at the own work's operation of this number, behind those for the request's children
abbrev pub IsOwnSeat : RequestNode → ℕ → ℕ → Type 0
IsOwnSeat r child n = option_map (λ (c : Child). c.seat) (slice_get r.family child) ≡ Some (OfOuter (length r.kids.kids.kids + n))

-- ---- what its fields owe

-- a piece that is a body lies on the tops
abbrev pub IsPieceOn : List Top → Copies → Type 0
IsPieceOn tops c = (bp : Bp) → c ≡ body_copies bp → IsBodyOn tops bp

-- the block has a valid pointer, and it all members that it may come to and all its bodies lie on the tops
pub record IsBlockOn (tops : List Top) (tree : Tree) : Type 0 where
  pub of_valid : IsTrue (valid tree.bp)
  pub lies : LiesOn tops tree.bp
  pub heads : AllByRecursion (IsHeadOn tops) tree.heads
  pub plain : tree.bp.gang ≡ false → IsBodyOn tops tree.bp
  pub bodies : AllByRecursion (IsPieceOn tops) (groups_of tree).bodies

-- so does the block that a request names
abbrev pub IsWaitingOver : List Top → UnfinishedRequest → Type 0
IsWaitingOver tops w = IfSome w.block (IsBlockOn tops)

-- a read's bodies lie on the tops, once its walk came to them
abbrev pub IsReadingOver : List Top → OwnRead → List Child → Type 0
IsReadingOver tops w family = IsOwnReadOver tops w family × AllByRecursion (IsBodyOn tops) w.tree.read.bodies

-- At which stage a node is, which stages it takes, and where its moves leave it.
use Rattle.std.specs.Prelude.{◌≡◌, ◌<◌, ◌≤◌, ◌⊎◌, ◌||◌, Bool, IsTrue, List, [], None, Option, Some, false, length, true}
use Rattle.zio_types.specs.declared.place.Top.{Top}
use Rattle.zio_types.specs.declared.request.ChildKind.{ChildKind}
use Rattle.zio_types.specs.declared.request.ChildKind.TheVariants.{Gang, Logical, Vdev}
use Rattle.zio_types.specs.declared.request.Kind.{Kind}
use Rattle.zio_types.specs.declared.request.Kind.TheVariants.{Claim as ClaimKind, Free as FreeKind}
use Rattle.zio_types.specs.declared.request.Phase.{Phase}
use Rattle.zio_types.specs.declared.request.Phase.TheVariants.{Done as IsDone, Ready as IsReady}
use Rattle.zio_masks.specs.Stages.{has, is_gang_stage, number_of}
use Rattle.zio_masks.specs.declared.pipeline.TheConstants.{INTERLOCK, READ, VDEV_CHILD, WRITE}
use Rattle.zio_masks.specs.declared.stage.Stage.{Stage}
use Rattle.zio_masks.specs.declared.stage.Stage.TheVariants.{
  Start,
  WriteCompress,
  GangAssemble,
  GangIssue,
  DvaAllocate,
  DvaFree,
  DvaClaim,
  Ready,
  VdevIoStart,
  VdevIoDone,
  VdevIoAssess,
  Done,
}
use Rattle.zio_parts.specs.declared.members.Member.{Member}
use Rattle.zio_script.specs.Requests.{kind_of}
use Rattle.zio_exchange.specs.SpaceCalls.{AreAsks, AreReturns, IsClaimAtMost, SpaceCall}
use Rattle.zio_stages.specs.PartWorks.{IsMoreDue, is_second}
use Rattle.zio_stages.specs.ReadCounts.{IsOneDue}
use Rattle.zio_stages.specs.RequestCounts.{IsMoreDueWrite, members_of}
use Rattle.zio_stages.specs.ReadIos.{IsReadStep, has_failed}
use Rattle.zio_stages.specs.RequestKinds.{has_gang_stages}
use Rattle.zio_stages.specs.RequestReads.{IsReadingWith, has_read_failed}
use Rattle.zio_stages.specs.declared.own_read.BodyIo.{BodyIo}
use Rattle.zio_stages.specs.declared.request_node.Own.{Own}
use Rattle.zio_stages.specs.declared.request_node.Own.TheVariants.{Claim, Due, Found, Free, Over, Read as ReadOwn, Stored, Write as WriteOwn}
use Rattle.zio_stages.specs.declared.write_io.IoStep.TheVariants.{Child}
use Rattle.zio_nodes.specs.SealedMoves.{Move}
use Rattle.zio_staged.specs.declared.staged.Move.TheVariants.{End, Grow, Leaf as ToLeaf, Next, Ready as Tell, Wait}
use Rattle.zio_nodes.specs.NodeNames.{handed_by, unfinished_at}
use Rattle.zio_nodes.specs.RequestAts.{takes}
use Rattle.zio_nodes.specs.declared.node.Node.{Node}
use Rattle.zio_nodes.specs.declared.node.Node.TheVariants.{Copies, Empty, Heads, Leaf, Part, Request, Tree}

-- the stage at which it stands; a tree of requests is about to start
abbrev pub stage_of : Node → Stage
stage_of (Leaf at) = at.stage
stage_of (Copies at) = at.stage
stage_of (Heads at) = at.stage
stage_of (Part at) = at.stage
stage_of (Tree at) = Start
stage_of (Request at) = at.stage
stage_of Empty = Start

-- the stages of its pipeline
abbrev pub takes_stage : Node → Stage → Bool
takes_stage (Leaf at) stage = has VDEV_CHILD stage
takes_stage (Copies at) stage = has READ stage
takes_stage (Heads at) stage = has INTERLOCK stage || is_gang_stage stage
takes_stage (Part at) stage = has WRITE stage
takes_stage (Tree at) stage = has INTERLOCK stage
takes_stage (Request at) stage =
    takes (kind_of at.node.waiting.request.work) (has_gang_stages at.node.waiting.request.work at.node.waiting.block) stage
takes_stage Empty stage = has INTERLOCK stage

-- ---- what a stage does

-- it waits until no child of the kind lacks its value for the phase
abbrev pub stalls_at : Stage → ChildKind → Phase → Bool
stalls_at WriteCompress Gang IsReady = true
stalls_at WriteCompress Logical IsReady = true
stalls_at GangAssemble Gang phase = true
stalls_at GangIssue Gang phase = true
stalls_at Ready Gang IsReady = true
stalls_at VdevIoDone Vdev IsDone = true
stalls_at Done kind IsDone = true
stalls_at stage kind phase = false

-- it hands out children of the kind
abbrev pub grows_at : Stage → ChildKind → Bool
grows_at Start Logical = true
grows_at GangAssemble Gang = true
grows_at GangIssue Gang = true
grows_at DvaAllocate Gang = true
grows_at VdevIoStart Vdev = true
grows_at stage kind = false

-- what a request's GangIssue asks of the space: a free's gives places back, and a claim's claims them
abbrev pub IssueFits : Kind → List SpaceCall → Type 0
IssueFits FreeKind calls = AreReturns calls
IssueFits ClaimKind calls = IsClaimAtMost calls
IssueFits _ calls = calls ≡ []

abbrev pub GangFits : Node → List SpaceCall → Type 0
GangFits (Request at) calls = IssueFits (kind_of at.node.waiting.request.work) calls
GangFits _ calls = calls ≡ []

-- The calls of the space that a stage makes: it asks for places, gives them back or claims them. At its last stage a node gives back
-- what it is not to keep.
abbrev pub CallsFit : Stage → Node → List SpaceCall → Type 0
CallsFit GangIssue node calls = GangFits node calls
CallsFit DvaAllocate node calls = AreAsks calls
CallsFit DvaFree node calls = AreReturns calls
CallsFit DvaClaim node calls = IsClaimAtMost calls
CallsFit Done node calls = AreReturns calls
CallsFit _ node calls = calls ≡ []

-- ---- how far a node's own work is

-- a gang's members that were handed out
abbrev pub members_in : Node → List Member
members_in (Part at) = at.node.work.own.part.members
members_in (Request at) = members_of at.node.own
members_in _ = []

abbrev pub retries_body : Option BodyIo → Bool
retries_body None = false
retries_body (Some b) = b.io.read.retry

abbrev pub is_second_of : Own → Bool
is_second_of Due = false
is_second_of (WriteOwn w) = is_second w.work.io
is_second_of (Stored b) = false
is_second_of (ReadOwn w) = retries_body w.body
is_second_of (Free w) = false
is_second_of (Claim w) = false
is_second_of (Found own) = false
is_second_of Over = false

-- Its pass over the leaves is the last in this attempt: the second of those that have two, and the only one of others.
abbrev pub is_last_pass : Node → Bool
is_last_pass (Leaf at) = true
is_last_pass (Copies at) = at.node.io.read.retry
is_last_pass (Heads at) = true
is_last_pass (Part at) = is_second at.node.work.io
is_last_pass (Tree at) = true
is_last_pass (Request at) = is_second_of at.node.own
is_last_pass Empty = true

-- ---- where it goes

-- the first of these stages after another
pub record IsNextOf (takes_it : Stage → Bool) (stage next : Stage) : Type 0 where
  pub stands : IsTrue (takes_it next)
  pub later : number_of stage < number_of next
  pub first : (other : Stage) → IsTrue (takes_it other) → number_of stage < number_of other → number_of next ≤ number_of other

-- another operation on a leaf is due for it in its pass, as its plan goes over such tops: a copy that is to be tried, or a repair
abbrev pub IsLeafDue : List Top → Node → Type 0
IsLeafDue tops (Copies at) = IsReadStep tops at.node.io Child
IsLeafDue tops (Part at) = IsMoreDue tops at.node.work.io
IsLeafDue tops (Request at) = IsReadingWith (IsOneDue tops) at.node.own ⊎ IsMoreDueWrite tops at.node.own
IsLeafDue tops _ = ⊥

-- From there it goes back to its operations on leaves: for another that is due, or for a second pass.
abbrev pub GoesBack : Stage → Node → Node → Type 0
GoesBack VdevIoDone node after = (tops : List Top) × IsLeafDue tops after
GoesBack VdevIoAssess node after = (is_last_pass node ≡ false) × (is_last_pass after ≡ true)
GoesBack _ node after = ⊥

-- its pass over the leaves came to no good copy
abbrev pub has_read_error : Node → Bool
has_read_error (Copies at) = has_failed at.node.io
has_read_error (Request at) = has_read_failed at.node.own
has_read_error _ = false

-- After an error VdevIoAssess cuts what is left of the pipeline short.
abbrev pub IsCut : Node → Node → Type 0
IsCut node after = (stage_of node ≡ VdevIoAssess) × (has_read_error node ≡ true) × (stage_of after ≡ Done)

abbrev pub LeadsTo : Node → Node → Type 0
LeadsTo node after =
    IsNextOf (takes_stage node) (stage_of node) (stage_of after)
    ⊎ ((GoesBack (stage_of node) node after × (stage_of after ≡ VdevIoStart)) ⊎ IsCut node after)

-- what is left of a node that goes on: a tree starts as the request at its root
abbrev pub GoesOnTo : Node → Node → Type 0
GoesOnTo (Tree at) after = stage_of after ≡ Start
GoesOnTo node after = LeadsTo node after

-- of a gang's members three are handed out at most
abbrev pub HasMembersLeft : Node → Type 0
HasMembersLeft node = stage_of node ≡ DvaAllocate → length (members_in node) < 3

-- of its request's children those are handed out that haven't finished, each once
abbrev pub HasKidsLeft : Node → Type 0
HasKidsLeft node = stage_of node ≡ Start → handed_by node < unfinished_at node

-- Where a move leaves its node. It goes on to the next stage of its pipeline, or back to its operations on leaves; it tells at
-- Ready, and goes on; it hands its operation out at VdevIoStart; it ends at Done. Else it stays where it is: it waits for what the
-- stage stalls on, or hands out a child of a kind that the stage has.
abbrev pub IsStageMove : Node → Move Node → Type 0
IsStageMove node (Next after) = GoesOnTo node after
IsStageMove node (Wait after kind phase) = (stage_of after ≡ stage_of node) × (stalls_at (stage_of node) kind phase ≡ true)
IsStageMove node (Grow after child kind) =
    (stage_of after ≡ stage_of node) × (grows_at (stage_of node) kind ≡ true) × HasMembersLeft node × HasKidsLeft node
IsStageMove node (ToLeaf after op leaf bytes) = (stage_of node ≡ VdevIoStart) × (stage_of after ≡ VdevIoStart)
IsStageMove node (Tell after pointer) = (stage_of node ≡ Ready) × IsNextOf (takes_stage node) (stage_of node) (stage_of after)
IsStageMove node (End outcome) = stage_of node ≡ Done

-- what comes at the last stage: it waits there, or ends
abbrev pub IsLastMove : Move Node → Type 0
IsLastMove (Wait after kind phase) = (stage_of after ≡ Done) × (phase ≡ IsDone)
IsLastMove (End outcome) = Unit {0}
IsLastMove _ = ⊥

abbrev pub IsEndMove : Move Node → Type 0
IsEndMove (End outcome) = Unit {0}
IsEndMove _ = ⊥

-- On which counts of its children a node stalls, and how many of them are out at a time.
use Rattle.std.specs.Prelude.{◌≡◌, ℕ, ◌+◌, ◌<◌, List, [], ◌∷◌, Bool, true, false, ◌&&◌, Option, Some, None}
use Rattle.zio_types.specs.declared.request.ChildKind.{ChildKind}
use Rattle.zio_types.specs.declared.request.ChildKind.TheVariants.{Gang}
use Rattle.zio_types.specs.declared.request.Kind.{Kind}
use Rattle.zio_types.specs.declared.request.Kind.TheVariants.{Null, Read, Write, Free, Claim}
use Rattle.zio_types.specs.declared.request.Phase.{Phase}
use Rattle.zio_types.specs.declared.request.Phase.TheVariants.{Done as IsDone}
use Rattle.zio_masks.specs.Stages.{is_gang_stage}
use Rattle.zio_masks.specs.declared.stage.Stage.{Stage}
use Rattle.zio_masks.specs.declared.stage.Stage.TheVariants.{GangAssemble, GangIssue}
use Rattle.zio_script.specs.Requests.{kind_of}
use Rattle.zio_trace.specs.Keys.{bit}
use Rattle.zio_frames.specs.Frames.{Child}
use Rattle.zio_stages.specs.ReadIos.{outs_of_read}
use Rattle.zio_stages.specs.WriteIos.{outs_in}
use Rattle.zio_stages.specs.declared.own_read.BodyIo.{BodyIo}
use Rattle.zio_stages.specs.declared.request_node.Own.{Own}
use Rattle.zio_stages.specs.declared.request_node.Own.TheVariants.{Claim as ClaimOwn, Due, Found, Free as FreeOwn, Over, Read as ReadOwn, Stored, Write as WriteOwn}
use Rattle.zio_stages.specs.declared.write_io.WriteIo.{WriteIo}
use Rattle.zio_staged.specs.Entries.{count_owing}
use Rattle.zio_nodes.specs.SealedMoves.{Move}
use Rattle.zio_staged.specs.declared.staged.Move.TheVariants.{End, Grow, Next, Ready as Tell}
use Rattle.zio_nodes.specs.StageMoves.{stage_of, stalls_at}
use Rattle.zio_nodes.specs.declared.node.Node.{Node}
use Rattle.zio_nodes.specs.declared.node.Node.TheVariants.{Copies, Empty, Heads, Leaf, Part, Request, Tree}

-- its children by number
abbrev pub children_of : Node → List Child
children_of (Leaf at) = []
children_of (Copies at) = at.node.family
children_of (Heads at) = at.node.family
children_of (Part at) = at.node.family
children_of (Tree at) = []
children_of (Request at) = at.node.family
children_of Empty = []

-- ---- a stage that hands out more than one gang child

abbrev pub is_read : Kind → Bool
is_read Null = false
is_read Read = true
is_read Write = false
is_read Free = false
is_read Claim = false

abbrev pub is_assembling : Stage → Bool
is_assembling GangAssemble = true
is_assembling stage = false

abbrev pub is_issuing : Stage → Bool
is_issuing GangIssue = true
is_issuing stage = false

-- The walks below a header's members, and the reads of a gang's bodies.
abbrev pub hands_many : Node → Bool
hands_many (Heads at) = is_assembling at.stage
hands_many (Request at) = is_issuing at.stage && is_read (kind_of at.node.waiting.request.work)
hands_many _ = false

-- fewer gang children than that lack a value
abbrev pub gang_room : ℕ
gang_room = 3

-- ---- what is owed to a stage

-- none of these children owes what the stage waits for
abbrev pub OweNone : Stage → List Child → Type 0
OweNone stage children = (kind : ChildKind) (phase : Phase) → stalls_at stage kind phase ≡ true → count_owing kind phase children ≡ 0

-- before the stage does anything: a stage that hands out many waits only where there is no room for another
pub record MayRun (stage : Stage) (many : Bool) (children : List Child) : Type 0 where
  pub none : many ≡ false → OweNone stage children
  pub room : is_gang_stage stage ≡ true → count_owing Gang IsDone children < gang_room

-- a move that leaves the stage finds no gang child that owes anything
abbrev pub LeavesGang : List Child → Move Node → Type 0
LeavesGang children (Next after) = (phase : Phase) → count_owing Gang phase children ≡ 0
LeavesGang children _ = Unit {0}

-- A node leaves its stage only where none of its children owes what the stage waits for. And where a gang stage hands out a child,
-- there was room for it.
abbrev pub LeavesNone : Node → Move Node → Type 0
LeavesNone node (Next after) = OweNone (stage_of node) (children_of node)
LeavesNone node (Tell after pointer) = OweNone (stage_of node) (children_of node)
LeavesNone node (End outcome) = OweNone (stage_of node) (children_of node)
LeavesNone node (Grow after child kind) = is_gang_stage (stage_of node) ≡ true → count_owing Gang IsDone (children_of node) < gang_room
LeavesNone node _ = Unit {0}

-- ---- operations on leaves

-- so many of these are out
abbrev pub outs_among : List Bool → ℕ
outs_among [] = 0
outs_among (out ∷ outs) = bit out + outs_among outs

abbrev pub outs_of_write : Option WriteIo → ℕ
outs_of_write None = 0
outs_of_write (Some io) = outs_among (outs_in io.write.answers)

abbrev pub outs_of_body : Option BodyIo → ℕ
outs_of_body None = 0
outs_of_body (Some b) = outs_among (outs_of_read b.io)

abbrev pub outs_of : Own → ℕ
outs_of Due = 0
outs_of (WriteOwn w) = outs_of_write w.work.io
outs_of (Stored b) = 0
outs_of (ReadOwn w) = outs_of_body w.body
outs_of (FreeOwn w) = 0
outs_of (ClaimOwn w) = 0
outs_of (Found own) = 0
outs_of Over = 0

-- so many of a node's are out
abbrev pub leaves_out : Node → ℕ
leaves_out (Copies at) = outs_among (outs_of_read at.node.io)
leaves_out (Part at) = outs_of_write at.node.work.io
leaves_out (Request at) = outs_of at.node.own
leaves_out _ = 0

-- three places on four leaves each
abbrev pub leaf_room : ℕ
leaf_room = 12

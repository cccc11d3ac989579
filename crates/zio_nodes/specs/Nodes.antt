-- A node of any kind: how far it is, whether it told its pointer, how often it runs at most, and what it gave back.
use Rattle.std.specs.Prelude.{◌≡◌, ℕ, List, [], Bool, true, false}
use Rattle.zio_types.specs.declared.place.Place.{Place}
use Rattle.zio_types.specs.declared.place.Top.{Top}
use Rattle.zio_types.specs.declared.request.ChildKind.TheVariants.{Vdev}
use Rattle.zio_gang.specs.Attempts.{Terms}
use Rattle.zio_frames.specs.Frames.{Stack}
use Rattle.zio_exchange.specs.SpaceCalls.{SpaceCall}
use Rattle.zio_stages.specs.HeadsNodes.{IsHeadsNode}
use Rattle.zio_stages.specs.PartNodes.{IsPartNode}
use Rattle.zio_stages.specs.RequestNodes.{IsRequestNode}
use Rattle.zio_staged.specs.Parts.{Nodes}
use Rattle.zio_staged.specs.Stages.{GoesOn, IsMove, IsNow}
use Rattle.zio_nodes.specs.SealedMoves.{Move}
use Rattle.zio_staged.specs.declared.staged.Move.TheVariants.{End, Grow, Leaf as ToLeaf, Next, Ready, Wait}
use Rattle.zio_nodes.specs.Bounds.{copies_left, heads_left, leaf_left, part_left}
use Rattle.zio_nodes.specs.CopiesAts.{IsCopiesAt, IsCopiesAtOver}
use Rattle.zio_nodes.specs.HeadsAts.{IsHeadsAtOver}
use Rattle.zio_nodes.specs.LeafAts.{IsLeafAt, LeafStands}
use Rattle.zio_nodes.specs.PartAts.{IsPartAtOver}
use Rattle.zio_nodes.specs.RequestAts.{IsRequestAtOver, gave_by}
use Rattle.zio_nodes.specs.RequestBounds.{request_left, tree_left}
use Rattle.zio_nodes.specs.StageMoves.{CallsFit, stage_of}
use Rattle.zio_nodes.specs.Told.{is_told}
use Rattle.zio_nodes.specs.TreeAts.{IsTreeAt, IsTreeAtOver}
pub use Rattle.zio_nodes.specs.TreeAts.{IsTreeOver}
use Rattle.zio_nodes.specs.declared.node.Node.{Node}
use Rattle.zio_nodes.specs.declared.node.Node.TheVariants.{Copies, Empty, Heads, Leaf, Part, Request, Tree}
use Rattle.zio_nodes.specs.declared.node_box.Kept.{Kept}
use Rattle.zio_nodes.specs.declared.node_box.Kept.TheVariants.{Leaf as Itself, Other as Boxed}
use Rattle.zio_nodes.specs.declared.turn.Last.{Last}
use Rattle.zio_nodes.specs.declared.turn.Last.TheVariants.{End as LastEnds, Wait as LastWaits}
use Rattle.zio_nodes.specs.declared.turn.Turn.{Turn}
use Rattle.zio_nodes.specs.declared.turn.Turn.TheVariants.{Ask as Asked, End as Ended, Grow as Grown, Leaf as Handed, Next as On, Ready as Told, Wait as Waiting}

-- it is so far in its part of the round's work
abbrev pub IsNode : Terms → Node → Stack → Type 0
IsNode t (Leaf at) st = IsLeafAt t at st
IsNode t (Copies at) st = IsCopiesAt t at st
IsNode t (Heads at) st = IsHeadsNode t at.node st
IsNode t (Part at) st = IsPartNode t at.node st
IsNode t (Tree at) st = IsTreeAt t at st
IsNode t (Request at) st = IsRequestNode t at.node st
IsNode t Empty st = ⊥

-- what it is to read, write or free lies inside these tops, and its work is as far as its stage says
abbrev pub IsNodeOver : List Top → Node → Type 0
IsNodeOver tops (Leaf at) = LeafStands at.stage at.is_out at.work
IsNodeOver tops (Copies at) = IsCopiesAtOver tops at
IsNodeOver tops (Heads at) = IsHeadsAtOver tops at
IsNodeOver tops (Part at) = IsPartAtOver tops at
IsNodeOver tops (Tree at) = IsTreeAtOver tops at
IsNodeOver tops (Request at) = IsRequestAtOver tops at
IsNodeOver tops Empty = ⊥

-- it told its pointer
abbrev pub told_of : Node → Bool
told_of (Leaf at) = is_told at.stage
told_of (Copies at) = is_told at.stage
told_of (Heads at) = is_told at.stage
told_of (Part at) = is_told at.stage
told_of (Tree at) = false
told_of (Request at) = is_told at.stage
told_of Empty = false

-- how often it runs at most
abbrev pub left_of : Node → ℕ
left_of (Leaf at) = leaf_left at.stage at.is_out
left_of (Copies at) = copies_left at
left_of (Heads at) = heads_left at
left_of (Part at) = part_left at
left_of (Tree at) = tree_left at
left_of (Request at) = request_left at
left_of Empty = 0

-- the places of a block that went back: only a request gives places back
abbrev pub gave_of : Node → List Place
gave_of (Leaf at) = []
gave_of (Copies at) = []
gave_of (Heads at) = []
gave_of (Part at) = []
gave_of (Tree at) = []
gave_of (Request at) = gave_by at.node.waiting.request.work at.node
gave_of Empty = []

-- it may run: no leaf has its operation
abbrev pub IsNodeDue : Node → Type 0
IsNodeDue (Leaf at) = at.is_out ≡ false
IsNodeDue _ = Unit {0}

abbrev pub nodes : Nodes Node
nodes = record { Is = IsNode; told = told_of; left = left_of; gave = gave_of; due = IsNodeDue }

-- ---- a node in its place

-- the move of a node that is this one now
abbrev pub moved : Node → Turn → Move Node
moved node On = Next node
moved node (Waiting kind phase) = Wait node kind phase
moved node (Grown child kind) = Grow node child.value kind
moved node (Asked at) = Grow node (Leaf at) Vdev
moved node (Handed op leaf bytes) = ToLeaf node op leaf bytes
moved node (Told pointer) = Ready node pointer
moved node (Ended outcome) = End outcome.value

-- the same of its last stage
abbrev pub last_moved : Node → Last → Move Node
last_moved node (LastWaits kind phase) = Wait node kind phase
last_moved node (LastEnds outcome) = End outcome

abbrev pub is_copies : Node → Bool
is_copies (Copies at) = true
is_copies _ = false

abbrev pub is_tree : Node → Bool
is_tree (Tree at) = true
is_tree _ = false

-- the node that is kept so
abbrev pub node_in : Kept → Node
node_in (Itself at) = Leaf at
node_in (Boxed node) = node.value

-- ---- stages that ask nothing of the space

-- what a stage comes to, from wherever the node is, over these tops
abbrev pub MovesBare : List Top → Node → Move Node → Type 0
MovesBare tops node move =
    (t : Terms) (st : Stack) → IsNow {N = Node} nodes tops t node st → IsMove {N = Node} nodes gave_of t node st [] move

-- what it comes back as
abbrev pub StaysBare : List Top → Node → Node → Type 0
StaysBare tops node after =
    (t : Terms) (st : Stack) → IsNow {N = Node} nodes tops t node st → GoesOn {N = Node} nodes gave_of t node st [] after

-- ---- stages that call the space

-- the same, where these calls, which are its stage's, were made from the one to the other
pub record MovesWith {S : Type 0} (made : S → List SpaceCall → S → Type 0) (tops : List Top) (a b : S) (node : Node) (move : Move Node) : Type 0 where
  pub calls : List SpaceCall
  pub were_made : made a calls b
  pub fits : CallsFit (stage_of node) node calls
  pub moves : (t : Terms) (st : Stack) → IsNow {N = Node} nodes tops t node st → IsMove {N = Node} nodes gave_of t node st calls move

pub record StaysWith {S : Type 0} (made : S → List SpaceCall → S → Type 0) (tops : List Top) (a b : S) (node after : Node) : Type 0 where
  pub calls : List SpaceCall
  pub were_made : made a calls b
  pub fits : CallsFit (stage_of node) node calls
  pub goes : (t : Terms) (st : Stack) → IsNow {N = Node} nodes tops t node st → GoesOn {N = Node} nodes gave_of t node st calls after

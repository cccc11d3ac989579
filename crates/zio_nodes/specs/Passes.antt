-- A node's pass over the leaves, which stays while operations on leaves are handed out and waited for.
use Rattle.std.specs.Prelude.{◌≡◌}
use Rattle.zio_masks.specs.declared.stage.Stage.{Stage}
use Rattle.zio_masks.specs.declared.stage.Stage.TheVariants.{VdevIoStart, VdevIoDone}
use Rattle.zio_nodes.specs.SealedMoves.{Move}
use Rattle.zio_staged.specs.declared.staged.Move.TheVariants.{End, Grow, Leaf as ToLeaf, Next, Ready as Tell, Wait}
use Rattle.zio_nodes.specs.StageMoves.{is_last_pass, stage_of}
use Rattle.zio_nodes.specs.declared.node.Node.{Node}

-- it is in the same pass as the node before
abbrev pub IsInPassOf : Node → Node → Type 0
IsInPassOf node after = is_last_pass after ≡ is_last_pass node

abbrev pub LeavesInPassOf : Node → Move Node → Type 0
LeavesInPassOf node (Next after) = IsInPassOf node after
LeavesInPassOf node (Wait after kind phase) = IsInPassOf node after
LeavesInPassOf node (Grow after child kind) = IsInPassOf node after
LeavesInPassOf node (ToLeaf after op leaf bytes) = IsInPassOf node after
LeavesInPassOf node (Tell after pointer) = Unit {0}
LeavesInPassOf node (End outcome) = Unit {0}

abbrev pub KeepsPassAt : Stage → Node → Move Node → Type 0
KeepsPassAt VdevIoStart node move = LeavesInPassOf node move
KeepsPassAt VdevIoDone node move = LeavesInPassOf node move
KeepsPassAt _ node move = Unit {0}

-- A move out of VdevIoStart or VdevIoDone leaves the node in its pass. So a second pass comes once in an attempt: it begins at
-- VdevIoAssess alone and out of a first pass alone, and a node that goes on from there never comes back.
abbrev pub KeepsPass : Node → Move Node → Type 0
KeepsPass node move = KeepsPassAt (stage_of node) node move

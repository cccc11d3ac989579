-- The moves of a node as an engine keeps it.
use Rattle.zio_nodes.specs.SealedMoves.{Move}
use Rattle.zio_nodes.specs.StageMoves.{IsStageMove}
use Rattle.zio_nodes.specs.Stalls.{LeavesNone}
use Rattle.zio_nodes.specs.declared.node.Node.{Node}

-- Where a stage leaves the node: it leads where the stage does, and leaves only where no child owes it anything.
pub record IsBoxMove (node : Node) (move : Move Node) : Type 0 where
  pub leads : IsStageMove node move
  pub leaves : LeavesNone node move

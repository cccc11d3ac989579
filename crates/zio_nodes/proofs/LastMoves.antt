-- What comes at the last stage is one of its moves.
use Rattle.std.proofs.Common.{◌≡◌, Result, Ok, Err, ap, sym, ◌∙◌}
use Rattle.std.specs.Prelude.{IfOk}
use Rattle.zio_masks.specs.declared.stage.Stage.TheVariants.{Done}
use Rattle.zio_nodes.specs.SealedMoves.{Move}
use Rattle.zio_staged.specs.declared.staged.Move.TheVariants.{End, Grow, Leaf as ToLeaf, Next, Ready as Tell, Wait}
use Rattle.zio_nodes.specs.Nodes.{last_moved}
use Rattle.zio_nodes.specs.StageMoves.{IsLastMove, IsStageMove, stage_of, stalls_at}
use Rattle.zio_nodes.specs.declared.node.Node.{Node}
use Rattle.zio_nodes.specs.declared.turn.Last.{Last}
use Rattle.zio_nodes.proofs.StageAllows.{stalls_so}

pub last_stage : (node : Node) (move : Move Node) → stage_of node ≡ Done → IsLastMove move → IsStageMove node move
last_stage node (Next after) is h = absurd h
last_stage node (Wait after kind phase) is h =
    (h.0 ∙ sym is, stalls_so (stage_of node) Done kind phase is (ap (stalls_at Done kind) h.1))
last_stage node (Grow after child kind) is h = absurd h
last_stage node (ToLeaf after op leaf bytes) is h = absurd h
last_stage node (Tell after pointer) is h = absurd h
last_stage node (End outcome) is h = is

pub last_stages : {E : Type 0} (node after : Node) (r : Result Last E) → stage_of node ≡ Done → IfOk r (λ last. IsLastMove (last_moved after last))
    → IfOk r (λ last. IsStageMove node (last_moved after last))
last_stages node after (Ok last) is h = last_stage node (last_moved after last) is h
last_stages node after (Err e) is h = tt

use Rattle.std.proofs.Common.{◌≡◌, subst, sym, ◌∙◌}
use Rattle.zio_masks.specs.declared.stage.Stage.TheVariants.{Done}
use Rattle.zio_staged.specs.declared.staged.Move.TheVariants.{End}
use Rattle.zio_staged.specs.Stages.{Lessens}
use Rattle.zio_nodes.specs.Nodes.{IsNodeOver, MovesBare, left_of}
use Rattle.zio_nodes.specs.StageMoves.{stage_of}
use Rattle.zio_nodes.specs.declared.node.Node.{Node}
use Rattle.zio_nodes.specs.declared.node.Node.TheVariants.{Copies}
use Rattle.zio_nodes.proofs.node.Node.end_copies.Goals as goal

pub into_outcome-requires-clause-over : goal.into_outcome-requires-clause-over
into_outcome-requires-clause-over c = subst (IsNodeOver c.args.tops.now) (sym c.replace.ensures.value ∙ c.in-Copies.is) c.requires.over

pub into_outcome-requires-clause-stage : goal.into_outcome-requires-clause-stage
into_outcome-requires-clause-stage c = subst (λ (n : Node). stage_of n ≡ Done) (sym c.replace.ensures.value ∙ c.in-Copies.is) c.requires.at_last

pub returns-clause-moves : goal.returns-clause-moves
returns-clause-moves c =
    let is : c.args.self.now ≡ Copies c.in-Copies.at = sym c.replace.ensures.value ∙ c.in-Copies.is in
    subst (λ (n : Node). MovesBare c.args.tops.now n (End c.into_outcome.result)) (sym is) c.into_outcome.ensures.moves

pub returns-clause-left : goal.returns-clause-left
returns-clause-left c =
    let is : c.args.self.now ≡ Copies c.in-Copies.at = sym c.replace.ensures.value ∙ c.in-Copies.is in
    subst (λ (n : Node). Lessens left_of n (End c.into_outcome.result)) (sym is) c.into_outcome.ensures.left

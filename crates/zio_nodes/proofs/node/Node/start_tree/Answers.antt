use Rattle.std.proofs.Common.{◌≡◌, ◌<◌, ap, subst, sym, ◌∙◌}
use Rattle.zio_masks.specs.declared.stage.Stage.TheVariants.{Start}
use Rattle.zio_staged.specs.declared.staged.Move.TheVariants.{Next}
use Rattle.zio_nodes.specs.Nodes.{IsNodeOver, MovesBare, left_of}
use Rattle.zio_nodes.specs.StageMoves.{IsStageMove}
use Rattle.zio_nodes.specs.declared.node.Node.{Node}
use Rattle.zio_nodes.specs.declared.node.Node.TheVariants.{Request, Tree}
use Rattle.zio_nodes.specs.declared.tree_at.TreeAt.{TreeAt}
use Rattle.zio_nodes.proofs.Refused.{stays_same}
use Rattle.zio_nodes.proofs.node.Node.start_tree.Goals as goal

pub returns-in-Ok-clause-moves : goal.returns-in-Ok-clause-moves
returns-in-Ok-clause-moves c = λ tops.
    let is : c.args.self.now ≡ Tree c.in-Tree.at = sym c.replace.ensures.value ∙ c.in-Tree.is in
    subst (λ (n : Node). MovesBare tops c.args.self.now (Next n)) (sym c.put.ensures)
    (subst (λ (n : Node). MovesBare tops n (Next (Request c.in-Ok.request))) (sym is) (c.in-Ok.ensures.moves tops))

pub returns-in-Ok-clause-over : goal.returns-in-Ok-clause-over
returns-in-Ok-clause-over c = λ tops h.
    subst (IsNodeOver tops) (sym c.put.ensures) (c.in-Ok.ensures.over tops (subst (IsNodeOver tops) (sym c.replace.ensures.value ∙ c.in-Tree.is) h))

pub returns-in-Ok-clause-left : goal.returns-in-Ok-clause-left
returns-in-Ok-clause-left c =
    subst (λ (n : Node). left_of n < left_of c.args.self.now) (sym c.put.ensures)
    (subst (λ (n : Node). left_of (Request c.in-Ok.request) < left_of n) (sym (sym c.replace.ensures.value ∙ c.in-Tree.is)) c.in-Ok.ensures.left)

pub returns-in-Ok-clause-stages : goal.returns-in-Ok-clause-stages
returns-in-Ok-clause-stages c =
    subst (λ (n : Node). IsStageMove c.args.self.now (Next n)) (sym c.put.ensures)
    (subst (λ (n : Node). IsStageMove n (Next (Request c.in-Ok.request))) (sym (sym c.replace.ensures.value ∙ c.in-Tree.is)) c.in-Ok.ensures.starts)

pub returns-in-Err-clause-refused : goal.returns-in-Err-clause-refused
returns-in-Err-clause-refused c = λ tops.
    let same : c.put-in-Err.new.self ≡ c.args.self.now = c.put-in-Err.ensures ∙ ap (λ (at : TreeAt). Tree at) c.in-Err.ensures.back ∙ sym c.in-Tree.is ∙ c.replace.ensures.value in
    stays_same tops c.args.self.now c.put-in-Err.new.self same

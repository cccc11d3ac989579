use Rattle.std.proofs.Common.{subst, sym}
use Rattle.zio_frames.specs.Frames.{Stack}
use Rattle.zio_stages.specs.RequestNodes.{IsRequestNode}
use Rattle.zio_nodes.proofs.TreeAtLemmas.{begins, begins_less, begins_over}
use Rattle.zio_nodes.proofs.tree_at.TreeAt.run_stage.Goals as goal

pub returns-in-Ok-clause-moves : goal.returns-in-Ok-clause-moves
returns-in-Ok-clause-moves c = λ tops t st now.
    let r = c.in-Ok.node in
    begins t st c.args.self r now.is c.in-Ok.ensures.due
    (subst (λ (s : Stack). IsRequestNode t r s) (sym now.is.fresh) (c.in-Ok.ensures.fresh t now.is.root now.is.below now.is.round now.is.failmode now.is.tree))

pub returns-in-Ok-clause-over : goal.returns-in-Ok-clause-over
returns-in-Ok-clause-over c = λ tops h.
    begins_over tops c.args.self c.in-Ok.node h c.in-Ok.ensures.list c.in-Ok.ensures.begun c.in-Ok.ensures.kept c.in-Ok.ensures.due (c.in-Ok.ensures.over tops)
    c.in-Ok.ensures.valid c.in-Ok.ensures.attempt

pub returns-in-Ok-clause-left : goal.returns-in-Ok-clause-left
returns-in-Ok-clause-left c = begins_less c.args.self.whole c.in-Ok.node.kids.due c.in-Ok.node.waiting c.in-Ok.ensures.list.list

use Rattle.std.proofs.Common.{[], ap, refl, subst, sym, ◌∙◌}
use Rattle.zio_masks.specs.declared.stage.Stage.{Stage}
use Rattle.zio_staged.specs.Stages.{Ends, OutcomeIn}
use Rattle.zio_stages.specs.Labels.{closed_label}
use Rattle.zio_stages.specs.Sealed.{Outcome}
use Rattle.zio_stages.specs.declared.request_node.OwnFound.{OwnFound}
use Rattle.zio_nodes.specs.Nodes.{gave_of, nodes}
use Rattle.zio_nodes.specs.RequestAts.{AreOutBehind}
use Rattle.zio_nodes.specs.Told.{is_told}
use Rattle.zio_nodes.specs.TreeAts.{IsTreeOver}
use Rattle.zio_nodes.specs.declared.node.Node.{Node}
use Rattle.zio_nodes.specs.declared.node.Node.TheVariants.{Request}
use Rattle.zio_nodes.proofs.LeftLemmas.{left_over}
use Rattle.zio_nodes.proofs.NullLemmas.{null_done_due, null_none_ended, null_places}
use Rattle.zio_nodes.proofs.OwnBare.{refused_bare}
use Rattle.zio_nodes.proofs.RequestMoves.{request_ends, request_waits}
use Rattle.zio_nodes.proofs.request_at.RequestAt.null_done.Goals as goal

pub returns-in-Wait-clause-moves : goal.returns-in-Wait-clause-moves
returns-in-Wait-clause-moves c = λ tops t st now.
    let out = subst (λ (s : Stage). AreOutBehind s c.args.self.now.node.kids.kids) c.requires.stage c.requires.over.1.stands.out in
    request_waits t st c.args.self.now c.args.self.now c.in-Wait.kind _ now.is refl refl (c.done_null.ensures.wait c.in-Wait.kind c.in-Wait.is t st now.seated now.is out)

pub returns-in-Ok-clause-moves : goal.returns-in-Ok-clause-moves
returns-in-Ok-clause-moves c = λ tops t st now.
    let at = c.args.self.now in
    let due = null_done_due c.requires.over.0 at.stage at.is_due at.node c.requires.kind c.requires.stage c.requires.over.1.stands in
    let end = c.in-Ok.ensures.ends in
    let by = end.2 in
    let label = closed_label at.node.attempt by.closed in
    subst (λ (o : Outcome). Ends {N = Node} nodes gave_of t (Request at) st [] o) (sym by.is)
    (request_ends t st at at.node by.closed label [] now.is (by.closes t st now.is) (ap is_told c.requires.stage) (null_none_ended t at.node st now.is due)
    (null_places t at.node st label by.closed now.is c.requires.kind due (ap (λ (o : OwnFound). o.tree) by.own_is ∙ end.1)))

pub returns-in-Ok-clause-over : goal.returns-in-Ok-clause-over
returns-in-Ok-clause-over c = λ tops h.
    let by = c.in-Ok.ensures.ends.2 in
    let label = closed_label c.args.self.now.node.attempt by.closed in
    subst (λ (o : Outcome). OutcomeIn (IsTreeOver tops) o) (sym by.is) (left_over tops c.args.self.now.node by.closed label h.over by.list)

pub returns-in-Err-clause-refused : goal.returns-in-Err-clause-refused
returns-in-Err-clause-refused c = λ tops.
    refused_bare tops c.args.self.now c.close_null.new.self c.args.self.now.stage c.args.self.now.is_due c.in-Err.ensures.same refl

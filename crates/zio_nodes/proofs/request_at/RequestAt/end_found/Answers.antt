use Rattle.std.proofs.Common.{◌≡◌, Some, refl, sym, ap, subst, ◌∙◌}
use Rattle.zio_staged.specs.Stages.{OutcomeIn}
use Rattle.zio_stages.specs.Labels.{closed_label}
use Rattle.zio_stages.specs.RequestReads.{found_of}
use Rattle.zio_stages.specs.RequestStoreds.{is_well}
use Rattle.zio_stages.specs.Sealed.{Outcome}
use Rattle.zio_stages.specs.declared.request_node.OwnFound.{OwnFound}
use Rattle.zio_nodes.specs.TreeAts.{IsTreeOver}
use Rattle.zio_nodes.proofs.FoundEnds.{ends_found}
use Rattle.zio_nodes.proofs.LeftLemmas.{left_over}
use Rattle.zio_nodes.proofs.OwnBare.{refused_bare}
use Rattle.zio_nodes.proofs.request_at.RequestAt.end_found.Goals as goal

pub returns-in-Ok-clause-moves : goal.returns-in-Ok-clause-moves
returns-in-Ok-clause-moves c = λ tops.
    let at = c.args.self.now in
    let found = c.requires.found in
    let end = c.in-Ok.ensures.ends in
    let by = end.2 in
    let same : end.0 ≡ found.0 = (let some : Some end.0 ≡ Some found.0 = sym end.1 ∙ ap found_of found.1 in cc) in
    ends_found tops c.requires.over.0 at found.0 by.closed c.in-Ok.outcome (closed_label at.node.attempt by.closed, by.is) c.requires.other c.requires.stage c.requires.over.1 found.1
    (by.own_is ∙ same) (by.decides ∙ ap (λ (own : OwnFound). is_well at.node own.error) same) by.closes

pub returns-in-Ok-clause-over : goal.returns-in-Ok-clause-over
returns-in-Ok-clause-over c = λ tops h.
    let by = c.in-Ok.ensures.ends.2 in
    subst (λ (o : Outcome). OutcomeIn (IsTreeOver tops) o) (sym by.is) (left_over tops c.args.self.now.node by.closed (closed_label c.args.self.now.node.attempt by.closed) h.over by.list)

pub returns-in-Ok-clause-left : goal.returns-in-Ok-clause-left
returns-in-Ok-clause-left c = λ pays. pays

pub returns-in-Err-clause-refused : goal.returns-in-Err-clause-refused
returns-in-Err-clause-refused c = λ tops.
    refused_bare tops c.args.self.now c.close_found.new.self c.args.self.now.stage c.args.self.now.is_due c.in-Err.ensures.same refl

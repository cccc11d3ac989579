use Rattle.std.proofs.Common.{sym, subst, ◌∙◌}
use Rattle.zio_stages.specs.RequestNodes.{IsOwnOver}
use Rattle.zio_stages.specs.RequestReads.{HasReadEnded, IsReadWith}
use Rattle.zio_stages.specs.declared.request_node.Own.{Own}
use Rattle.zio_stages.proofs.RequestOwnMoves.{read_in}
use Rattle.zio_stages.proofs.RequestReadLemmas.{ended_over, read_found}
use Rattle.zio_stages.proofs.request_node.RequestNode.end_read.Goals as goal

pub into_found-requires : goal.into_found-requires
into_found-requires c = (subst (IsReadWith HasReadEnded) (sym c.replace.ensures.value ∙ c.in-Read.is) c.requires).0

pub returns-in-Ok-clause-ends : goal.returns-in-Ok-clause-ends
returns-in-Ok-clause-ends c = λ t st h.
    let r = c.args.self.now in
    let is = sym c.replace.ensures.value ∙ c.in-Read.is in
    let end = subst (IsReadWith HasReadEnded) is c.requires in
    let own = read_in t r st c.in-Read.own h is in
    read_found t r st c.in-Read.own c.found_of.result c.in-Ok.found h own end.1 (c.in-Ok.ensures.found t st.children own.tree h.kid_asked h.kid_slots st own.is) c.found_of.ensures

pub returns-in-Ok-clause-over : goal.returns-in-Ok-clause-over
returns-in-Ok-clause-over c = λ tops over.
    let r = c.args.self.now in
    let is = sym c.replace.ensures.value ∙ c.in-Read.is in
    let end = subst (IsReadWith HasReadEnded) is c.requires in
    ended_over tops c.in-Read.own r.family end.1 (subst (λ (o : Own). IsOwnOver tops o r.family) is over).0

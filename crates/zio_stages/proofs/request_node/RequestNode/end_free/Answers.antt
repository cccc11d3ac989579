use Rattle.std.proofs.Common.{subst}
use Rattle.zio_stages.specs.RequestFrees.{HasFreed, IsFreeWith}
use Rattle.zio_stages.specs.RequestNodes.{IsOwnOver}
use Rattle.zio_stages.specs.declared.request_node.Own.{Own}
use Rattle.zio_stages.proofs.RequestFreeMoves.{free_found, free_in, free_or_found}
use Rattle.zio_stages.proofs.request_node.RequestNode.end_free.Goals as goal

pub error-error-requires : goal.error-error-requires
error-error-requires c = let k = subst (IsFreeWith (HasFreed c.args.self.now.waiting.block)) c.in-Free.is c.requires in (k.0, k.1)

pub returns-in_default-clause-found : goal.returns-in_default-clause-found
returns-in_default-clause-found c = free_or_found _ c.args.self.now.own c.requires c.in_default.not-Free

pub returns-clause-ends : goal.returns-clause-ends
returns-clause-ends c = λ t st h.
    let r = c.args.self.now in
    let w = c.in-Free.own in
    let own = free_in t r st w h c.in-Free.is in
    free_found t r st w c.failed.result c.error-error.result h own (c.error-error.ensures.ends st.children own.tree h.kid_asked h.kid_slots st own.is) c.failed.ensures

pub returns-clause-over : goal.returns-clause-over
returns-clause-over c = λ tops over. subst (λ (o : Own). IsOwnOver tops o c.args.self.now.family) c.in-Free.is over

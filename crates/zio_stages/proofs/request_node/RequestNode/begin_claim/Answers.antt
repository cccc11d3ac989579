use Rattle.zio_stages.proofs.RequestClaimMoves.{if_due}
use Rattle.zio_stages.proofs.request_node.RequestNode.begin_claim.Goals as goal

pub returns-in-Due-clause-plain : goal.returns-in-Due-clause-plain
returns-in-Due-clause-plain c = if_due _ _ c.claim_init.result c.claim_init.ensures.plain

use Rattle.std.proofs.Common.{sym, subst, ◌∙◌}
use Rattle.zio_blkptr.specs.Pointers.{pointer_of}
use Rattle.zio_stages.specs.OwnClaims.{own_claimed}
use Rattle.zio_stages.specs.RequestClaims.{HasEndedClaim, IsClaimWith}
use Rattle.zio_stages.proofs.RequestClaimMoves.{claim_found, claim_in, claimed_none}
use Rattle.zio_stages.proofs.request_node.RequestNode.end_claim.Goals as goal

pub into_claimed-found-requires : goal.into_claimed-found-requires
into_claimed-found-requires c = subst (IsClaimWith HasEndedClaim) (sym c.replace.ensures.value ∙ c.in-Claim.is) c.requires

pub returns-in-Claim-clause-ends : goal.returns-in-Claim-clause-ends
returns-in-Claim-clause-ends c = λ t st h.
    let r = c.args.self.now in
    let w = c.in-Claim.own in
    let own = claim_in t r st w h (sym c.replace.ensures.value ∙ c.in-Claim.is) in
    claim_found t r st w c.claimed.result (own_claimed c.into_claimed-found.result) h own
    (c.into_claimed-found.ensures.ends st.children (pointer_of own.bytes) h.kid_asked h.kid_slots st own.is) c.into_claimed-found.ensures.took (claimed_none c.into_claimed-found.result) c.claimed.ensures

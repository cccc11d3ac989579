use Rattle.std.proofs.Common.{[], refl, subst}
use Rattle.zio_blkptr.specs.Pointers.{pointer_of}
use Rattle.zio_stages.specs.RequestNodes.{IsOwnOver, IsRequestNode}
use Rattle.zio_stages.specs.declared.request_node.Own.{Own}
use Rattle.zio_stages.proofs.BehindLemmas.{does_nothing}
use Rattle.zio_stages.proofs.RequestClaimMoves.{claim_goes_on, claim_in, claims_bytes, does_claim, own_claim}
use Rattle.zio_stages.proofs.request_node.RequestNode.dva_claim.Goals as goal

pub returns-in_default-clause-does : goal.returns-in_default-clause-does
returns-in_default-clause-does g c = ([], g.met.S.Services.made_none c.args.services.now, λ t st h. does_nothing t st (IsRequestNode t c.args.self.now) h, tt)

pub dva_claim-requires : goal.dva_claim-requires
dva_claim-requires g c = (subst (λ (o : Own). IsOwnOver (g.S.Services.tops c.args.services.now) o c.args.self.now.family) c.in-Claim.is c.requires).1

pub returns-clause-does : goal.returns-clause-does
returns-clause-does g c =
    let d = c.dva_claim.ensures.does in (
      d.0,
      d.1,
      λ t st h.
          let r = c.args.self.now in
          let w = c.in-Claim.own in
          let own = claim_in t r st w h c.in-Claim.is in
          does_claim t r st c.dva_claim.new.self r.family own.bytes d.0 h (claims_bytes t r st w h own)
          (d.2 t t.setting.tops r.family (pointer_of own.bytes) h.kid_asked h.kid_slots st (claim_goes_on t t.setting.tops r st own.bytes h refl (claims_bytes t r st w h own)) (own_claim t r st w h own)),
      d.3,
    )

pub returns-clause-over : goal.returns-clause-over
returns-clause-over g c = ((subst (λ (o : Own). IsOwnOver (g.S.Services.tops c.args.services.now) o c.args.self.now.family) c.in-Claim.is c.requires).0, c.dva_claim.ensures.over)

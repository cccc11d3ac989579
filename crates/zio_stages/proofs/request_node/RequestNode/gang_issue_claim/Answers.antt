use Rattle.std.proofs.Common.{◌≡◌, subst}
use Rattle.zio_types.specs.declared.request.ChildKind.{ChildKind}
use Rattle.zio_types.specs.declared.request.ChildKind.TheVariants.{Gang}
use Rattle.zio_types.specs.declared.request.Phase.TheVariants.{Done}
use Rattle.zio_stages.specs.OwnParts.{IsOwed}
use Rattle.zio_stages.proofs.RequestClaimMoves.{claim_owed}
use Rattle.zio_stages.proofs.request_node.RequestNode.gang_issue_claim.Goals as goal

pub returns-in-Out-clause-wait : goal.returns-in-Out-clause-wait
returns-in-Out-clause-wait c = λ kind e t st seated h.
    let is : Gang ≡ kind = cc in
    subst (λ (k : ChildKind). IsOwed k Done st) is (claim_owed t c.args.self.now st c.in-Claim.own c.in-Some.field-0 h c.in-Claim.is c.in-Out.is c.in-Some.is seated)

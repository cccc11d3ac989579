use Rattle.std.proofs.Common.{◌≡◌, subst}
use Rattle.zio_types.specs.declared.request.ChildKind.{ChildKind}
use Rattle.zio_types.specs.declared.request.ChildKind.TheVariants.{Gang}
use Rattle.zio_types.specs.declared.request.Phase.TheVariants.{Done}
use Rattle.zio_stages.specs.OwnParts.{IsOwed}
use Rattle.zio_stages.proofs.RequestFreeMoves.{free_owed}
use Rattle.zio_stages.proofs.request_node.RequestNode.gang_issue_free.Goals as goal

pub returns-in-Out-clause-wait : goal.returns-in-Out-clause-wait
returns-in-Out-clause-wait c = λ kind e t st seated h.
    let is : Gang ≡ kind = cc in
    subst (λ (k : ChildKind). IsOwed k Done st) is (free_owed t c.args.self.now st c.in-Free.own h c.in-Free.is c.in-Out.is seated)

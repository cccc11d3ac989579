use Rattle.std.proofs.Common.{◌≡◌, subst}
use Rattle.zio_types.specs.declared.request.ChildKind.{ChildKind}
use Rattle.zio_types.specs.declared.request.ChildKind.TheVariants.{Gang}
use Rattle.zio_types.specs.declared.request.Phase.TheVariants.{Done}
use Rattle.zio_stages.specs.OwnParts.{IsOwed}
use Rattle.zio_stages.specs.RequestReads.{IsAlone, IsReadWith}
use Rattle.zio_stages.proofs.RequestOwnMoves.{own_read, read_in}
use Rattle.zio_stages.proofs.request_node.RequestNode.done_read.Goals as goal

pub returns-in-Wait-clause-wait : goal.returns-in-Wait-clause-wait
returns-in-Wait-clause-wait c = λ kind e t st seated h.
    let r = c.args.self.now in
    let w = c.in-Read.own in
    let own = read_in t r st w h c.in-Read.is in
    let is : Gang ≡ kind = cc in
    subst (λ (k : ChildKind). IsOwed k Done st) is
    (c.next.ensures.waits c.in-Wait.is (subst (IsReadWith IsAlone) c.in-Read.is c.requires.alone) t r.family own.tree h.kid_asked h.kid_slots st seated (own_read t r st w h own))

pub returns-in-Wait-done_null-clause-wait : goal.returns-in-Wait-done_null-clause-wait
returns-in-Wait-done_null-clause-wait c = λ kind e t st seated h.
    let is : c.in-Wait-done_null.kind ≡ kind = cc in
    subst (λ (k : ChildKind). IsOwed k Done st) is (c.done_null.ensures.wait c.in-Wait-done_null.kind c.in-Wait-done_null.is t st seated h c.requires.handed)

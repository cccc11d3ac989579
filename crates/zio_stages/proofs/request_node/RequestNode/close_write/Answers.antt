use Rattle.std.proofs.Common.{◌≡◌, Some, ap}
use Rattle.zio_stages.specs.RequestStoreds.{found_by}
use Rattle.zio_stages.specs.declared.request_node.OwnFound.{OwnFound}
use Rattle.zio_stages.proofs.ClosedLemmas.{ends_with}
use Rattle.zio_stages.proofs.RequestStoredLemmas.{stored_ends}
use Rattle.zio_stages.proofs.request_node.RequestNode.close_write.Goals as goal

pub returns-clause-ends : goal.returns-clause-ends
returns-clause-ends c =
    let r = c.args.self.now in
    let b = c.in-Stored.field-0 in
    ends_with r b.own (λ (x : OwnFound). found_by r.own ≡ Some x) c.close.result (ap found_by c.in-Stored.is)
    (λ t st h. stored_ends t r st b h c.in-Stored.is) c.close.ensures.closes

use Rattle.std.proofs.Common.{◌≡◌, Some, ap}
use Rattle.zio_stages.specs.RequestReads.{found_of}
use Rattle.zio_stages.specs.declared.request_node.OwnFound.{OwnFound}
use Rattle.zio_stages.proofs.ClosedLemmas.{ends_with}
use Rattle.zio_stages.proofs.RequestFoundLemmas.{found_ends}
use Rattle.zio_stages.proofs.request_node.RequestNode.close_found.Goals as goal

pub returns-clause-ends : goal.returns-clause-ends
returns-clause-ends c =
    let r = c.args.self.now in
    ends_with r c.in-Found.found (λ (x : OwnFound). found_of r.own ≡ Some x) c.close.result (ap found_of c.in-Found.is)
    (λ t st h. found_ends t r st c.in-Found.found h c.in-Found.is) c.close.ensures.closes

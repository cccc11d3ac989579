use Rattle.std.proofs.Common.{◌≡◌, None, refl}
use Rattle.zio_stages.specs.OwnFounds.{own_got}
use Rattle.zio_stages.specs.declared.request_node.OwnFound.{OwnFound}
use Rattle.zio_stages.proofs.ClosedLemmas.{ends_with}
use Rattle.zio_stages.proofs.NullEnds.{null_ends}
use Rattle.zio_stages.proofs.request_node.RequestNode.close_null.Goals as goal

pub returns-clause-ends : goal.returns-clause-ends
returns-clause-ends c =
    let r = c.args.self.now in
    let own : OwnFound = record { error = None; bytes = c.new.result; tree = None; pointer = None } in
    ends_with r own (λ (x : OwnFound). x.tree ≡ None) c.close.result refl
    (λ t st h. null_ends t r st h (own_got own) c.requires.null (λ i. record { error = None; bytes = c.new.ensures i; tree = None; pointer = None }))
    c.close.ensures.closes

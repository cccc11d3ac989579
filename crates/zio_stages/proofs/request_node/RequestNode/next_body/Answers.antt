use Rattle.std.proofs.Common.{◌≡◌, refl, sym, subst, ◌∙◌}
use Rattle.zio_stages.specs.ReadCounts.{HasHandedAll, HasWalkBegun}
use Rattle.zio_stages.specs.RequestReads.{IsAlone, IsBodyNext, IsReadWith, IsReadingWith}
use Rattle.zio_stages.proofs.RequestOwnMoves.{own_read, read_in}
use Rattle.zio_stages.proofs.ReadCountLemmas.{handed_by}
use Rattle.zio_stages.proofs.request_node.RequestNode.next_body.Goals as goal

pub returns-in-Wait-clause-waits : goal.returns-in-Wait-clause-waits
returns-in-Wait-clause-waits c = λ e t st seated h.
    let r = c.args.self.now in
    let w = c.in-Read.own in
    let own = read_in t r st w h c.in-Read.is in
    c.next.ensures.waits c.in-Wait.is (subst (IsReadWith IsAlone) c.in-Read.is c.requires) t r.family own.tree h.kid_asked h.kid_slots st seated (own_read t r st w h own)

pub returns-in-Walk-clause-ended : goal.returns-in-Walk-clause-ended
returns-in-Walk-clause-ended c = λ e gang.
    subst (IsReadWith (λ w. HasWalkBegun w → HasHandedAll w)) (sym c.in-Read.is)
    (λ begun. handed_by c.in-Read.own.tree.read c.next.result c.next.ensures.shows c.in-Walk.is begun)

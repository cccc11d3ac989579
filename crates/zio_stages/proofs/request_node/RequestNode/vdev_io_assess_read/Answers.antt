use Rattle.zio_stages.specs.OwnReads.{IsOwnRead}
use Rattle.zio_stages.proofs.RequestOwnMoves.{own_read, read_in}
use Rattle.zio_stages.proofs.RequestReadMoves.{assess_own, does_own}
use Rattle.zio_stages.proofs.request_node.RequestNode.vdev_io_assess_read.Goals as goal

pub returns-in-Read-clause-does : goal.returns-in-Read-clause-does
returns-in-Read-clause-does c = λ t st tops h.
    let r = c.args.self.now in
    let w = c.in-Read.own in
    let own = read_in t r st w h c.in-Read.is in
    let is = own_read t r st w h own in
    does_own t r st w c.vdev_io_assess.new.self r.family h own
    (assess_own t st (IsOwnRead t c.vdev_io_assess.new.self r.family own.tree h.kid_asked h.kid_slots) c.vdev_io_assess.result
    (λ e. c.vdev_io_assess.ensures.again e t own.tree h.kid_asked h.kid_slots st tops is)
    (λ e. c.vdev_io_assess.ensures.closes e t own.tree h.kid_asked h.kid_slots st tops is))

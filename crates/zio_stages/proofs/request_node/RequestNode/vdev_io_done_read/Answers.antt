use Rattle.zio_stages.proofs.RequestOwnMoves.{own_read, read_in}
use Rattle.zio_stages.proofs.request_node.RequestNode.vdev_io_done_read.Goals as goal

pub returns-in-Read-clause-waits : goal.returns-in-Read-clause-waits
returns-in-Read-clause-waits c = λ e t st tops seated h.
    let r = c.args.self.now in
    let w = c.in-Read.own in
    let own = read_in t r st w h c.in-Read.is in
    c.vdev_io_done.ensures.waits e t r.family own.tree h.kid_asked h.kid_slots st tops seated (own_read t r st w h own)

use Rattle.zio_trace.specs.Tasks.{Got}
use Rattle.zio_stages.proofs.RequestOwnMoves.{own_read, read_in}
use Rattle.zio_stages.proofs.RequestReadMoves.{hears_own}
use Rattle.zio_stages.proofs.request_node.RequestNode.arrive_leaf_read.Goals as goal

pub returns-clause-heard : goal.returns-clause-heard
returns-clause-heard c = λ t st x a tops found there h.
    let r = c.args.self.now in
    let w = c.in-Read.own in
    let own = read_in t r st w h c.in-Read.is in
    hears_own t r st w c.arrive_leaf.new.self c.arrive_leaf.new.family c.args.child x (Got a) h own
    (c.arrive_leaf.ensures.heard t own.tree h.kid_asked h.kid_slots st x a tops found there (own_read t r st w h own))

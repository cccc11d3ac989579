use Rattle.std.proofs.Common.{◌+◌, length, sym, subst}
use Rattle.zio_frames.specs.Moves.{heard_early}
use Rattle.zio_stages.specs.RequestNodes.{IsOwnOver, IsRequestNode}
use Rattle.zio_stages.specs.declared.request_node.Own.{Own}
use Rattle.zio_stages.proofs.RequestHears.{child_within}
use Rattle.zio_stages.proofs.RequestOwnMoves.{own_read, read_in}
use Rattle.zio_stages.proofs.RequestReadMoves.{own_seat, tells_own}
use Rattle.zio_stages.proofs.RequestWriteLemmas.{with_own}
use Rattle.zio_stages.proofs.request_node.RequestNode.arrive_ready_read.Goals as goal

pub arrive_ready-requires : goal.arrive_ready-requires
arrive_ready-requires c =
    let r = c.args.self.now in
    record { child = child_within r.family c.args.child (length r.kids.kids.kids + c.requires.seat.0) c.requires.seat.1 }

pub returns-clause-told : goal.returns-clause-told
returns-clause-told c = λ t st x pointer seated there goes untold h.
    let r = c.args.self.now in
    let w = c.in-Read.own in
    let own = read_in t r st w h c.in-Read.is in
    subst (λ (o : Own). IsRequestNode t (with_own r o c.arrive_ready.new.family) (heard_early st c.args.child x pointer)) (sym c.in-Read.is)
    (tells_own t r st w w c.arrive_ready.new.family c.args.child x pointer h own
    (c.arrive_ready.ensures.told t own.tree h.kid_asked h.kid_slots st x c.requires.seat.0 pointer there (own_seat t r st c.args.child c.requires.seat.0 x h own.all c.requires.seat.1 there) seated goes untold
    (own_read t r st w h own)))

pub returns-clause-over : goal.returns-clause-over
returns-clause-over c = λ tops over.
    let mine = subst (λ (o : Own). IsOwnOver tops o c.args.self.now.family) c.in-Read.is over in
    subst (λ (o : Own). IsOwnOver tops o c.arrive_ready.new.family) (sym c.in-Read.is) (c.arrive_ready.ensures.over tops mine.0, mine.1)

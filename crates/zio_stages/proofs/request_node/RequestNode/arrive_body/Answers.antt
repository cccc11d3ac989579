use Rattle.std.proofs.Common.{◌+◌, length, sym, subst}
use Rattle.std.specs.List.{AllByRecursion}
use Rattle.zio_trace.specs.Tasks.{Got}
use Rattle.zio_stages.specs.OwnReads.{IsBodyOn}
use Rattle.zio_stages.specs.RequestNodes.{IsOwnOver}
use Rattle.zio_stages.specs.RequestReads.{IsBodyBeside, IsReadingWith}
use Rattle.zio_stages.specs.declared.request_node.Own.{Own}
use Rattle.zio_stages.proofs.RequestHears.{child_within}
use Rattle.zio_stages.proofs.RequestOwnMoves.{own_read, read_in}
use Rattle.zio_stages.proofs.RequestReadMoves.{hears_own, own_seat}
use Rattle.zio_stages.proofs.request_node.RequestNode.arrive_body.Goals as goal

pub arrive_found-requires : goal.arrive_found-requires
arrive_found-requires c =
    let r = c.args.self.now in
    let out = subst (IsReadingWith (IsBodyBeside c.args.n)) c.in-Read.is c.requires.out in
    record { child = child_within r.family c.args.child (length r.kids.kids.kids + c.args.n) c.requires.seat; out = out.0; beside = out.1 }

pub returns-clause-heard : goal.returns-clause-heard
returns-clause-heard c = λ t st x a found there h.
    let r = c.args.self.now in
    let w = c.in-Read.own in
    let own = read_in t r st w h c.in-Read.is in
    hears_own t r st w c.arrive_found.new.self c.arrive_found.new.family c.args.child x (Got a) h own
    (c.arrive_found.ensures.heard t own.tree h.kid_asked h.kid_slots st x a found there (own_seat t r st c.args.child c.args.n x h own.all c.requires.seat there) (own_read t r st w h own))

pub returns-clause-over : goal.returns-clause-over
returns-clause-over c =
    let tops = c.args.tops.now in
    let over = subst (λ (o : Own). IsOwnOver tops o c.args.self.now.family) c.in-Read.is c.requires.over in
    (c.arrive_found.ensures.over tops over.0, subst (AllByRecursion (IsBodyOn tops)) (sym c.arrive_found.ensures.bodies) over.1)

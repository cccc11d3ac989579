use Rattle.std.proofs.Common.{◌≡◌, ◌+◌, length, sym, subst}
use Rattle.zio_frames.specs.Moves.{heard_early}
use Rattle.zio_stages.specs.RequestFrees.{IsFreeingWith}
use Rattle.zio_stages.specs.RequestNodes.{IsOwnOver, IsRequestNode}
use Rattle.zio_stages.specs.declared.own_free.FreeWalk.TheVariants.{Out}
use Rattle.zio_stages.specs.declared.request_node.Own.{Own}
use Rattle.zio_stages.proofs.RequestFreeMoves.{free_in, own_free, tells_free}
use Rattle.zio_stages.proofs.RequestHears.{child_within}
use Rattle.zio_stages.proofs.RequestReadMoves.{own_first}
use Rattle.zio_stages.proofs.RequestWriteLemmas.{with_own}
use Rattle.zio_stages.proofs.request_node.RequestNode.arrive_ready_free.Goals as goal

pub arrive_ready-requires : goal.arrive_ready-requires
arrive_ready-requires c =
    let r = c.args.self.now in
    record { child = child_within r.family c.args.child (length r.kids.kids.kids + 0) c.requires.seat; out = subst (IsFreeingWith (λ w. w.walk ≡ Out)) c.in-Free.is c.requires.out }

pub returns-clause-told : goal.returns-clause-told
returns-clause-told c = λ t st x pointer there h.
    let r = c.args.self.now in
    let w = c.in-Free.own in
    let own = free_in t r st w h c.in-Free.is in
    subst (λ (o : Own). IsRequestNode t (with_own r o c.arrive_ready.new.family) (heard_early st c.args.child x pointer)) (sym c.in-Free.is)
    (tells_free t r st w c.arrive_ready.new.family c.args.child x pointer h own
    (c.arrive_ready.ensures.told own.tree h.kid_asked h.kid_slots st x pointer there (own_first t r st c.args.child x h own.all c.requires.seat there) (own_free t r st w h own)))

pub returns-clause-over : goal.returns-clause-over
returns-clause-over c = λ tops over.
    subst (λ (o : Own). IsOwnOver tops o c.arrive_ready.new.family) (sym c.in-Free.is) (c.arrive_ready.ensures.sits (subst (λ (o : Own). IsOwnOver tops o c.args.self.now.family) c.in-Free.is over))

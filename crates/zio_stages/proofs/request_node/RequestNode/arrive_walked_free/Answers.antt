use Rattle.std.proofs.Common.{◌≡◌, ◌+◌, length, sym, ap, subst, ◌∙◌}
use Rattle.zio_trace.specs.Tasks.{WalkedBy}
use Rattle.zio_stages.specs.RequestFrees.{IsFreeingWith, freed_by}
use Rattle.zio_stages.specs.RequestNodes.{IsOwnOver}
use Rattle.zio_stages.specs.declared.own_free.FreeWalk.TheVariants.{Out}
use Rattle.zio_stages.specs.declared.request_node.Own.{Own}
use Rattle.zio_stages.proofs.RequestFreeMoves.{free_in, hears_free, own_free}
use Rattle.zio_stages.proofs.RequestHears.{child_within}
use Rattle.zio_stages.proofs.RequestReadMoves.{own_first}
use Rattle.zio_stages.proofs.request_node.RequestNode.arrive_walked_free.Goals as goal

pub arrive_walked-requires : goal.arrive_walked-requires
arrive_walked-requires c =
    let r = c.args.self.now in
    record { child = child_within r.family c.args.child (length r.kids.kids.kids + 0) c.requires.seat; out = subst (IsFreeingWith (λ w. w.walk ≡ Out)) c.in-Free.is c.requires.out }

pub returns-clause-heard : goal.returns-clause-heard
returns-clause-heard c = λ t st x there h.
    let r = c.args.self.now in
    let w = c.in-Free.own in
    let own = free_in t r st w h c.in-Free.is in
    hears_free t r st w c.arrive_walked.new.self c.arrive_walked.new.family c.args.child x (WalkedBy c.args.walked) h own
    (c.arrive_walked.ensures.heard own.tree h.kid_asked h.kid_slots st x there (own_first t r st c.args.child x h own.all c.requires.seat there) (own_free t r st w h own))

pub returns-clause-over : goal.returns-clause-over
returns-clause-over c = λ tops over. c.arrive_walked.ensures.sits (subst (λ (o : Own). IsOwnOver tops o c.args.self.now.family) c.in-Free.is over)

pub returns-clause-given : goal.returns-clause-given
returns-clause-given c = c.arrive_walked.ensures.given ∙ ap freed_by (sym c.in-Free.is)

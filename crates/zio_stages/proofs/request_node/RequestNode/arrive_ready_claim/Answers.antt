use Rattle.std.proofs.Common.{◌≡◌, ◌+◌, length, Some, sym, subst}
use Rattle.zio_blkptr.specs.Pointers.{pointer_of}
use Rattle.zio_gang.specs.declared.tree.Tree.{Tree}
use Rattle.zio_frames.specs.Moves.{heard_early}
use Rattle.zio_stages.specs.OwnClaims.{IsOwnClaim}
use Rattle.zio_stages.specs.RequestClaims.{IsClaimingWith}
use Rattle.zio_stages.specs.RequestNodes.{IsOwnOver, IsRequestNode}
use Rattle.zio_stages.specs.declared.own_claim.ClaimStep.TheVariants.{Out}
use Rattle.zio_stages.specs.declared.request_node.Own.{Own}
use Rattle.zio_stages.proofs.RequestClaimMoves.{claim_in, own_claim, pointer_is, tells_claim}
use Rattle.zio_stages.proofs.RequestHears.{child_within}
use Rattle.zio_stages.proofs.RequestReadMoves.{own_first}
use Rattle.zio_stages.proofs.RequestWriteLemmas.{with_own}
use Rattle.zio_stages.proofs.request_node.RequestNode.arrive_ready_claim.Goals as goal

pub arrive_ready-requires : goal.arrive_ready-requires
arrive_ready-requires c =
    let r = c.args.self.now in
    record { child = child_within r.family c.args.child (length r.kids.kids.kids + 0) c.requires.seat; out = subst (IsClaimingWith (λ w. w.step ≡ Out)) c.in-Claim.is c.requires.out }

pub returns-clause-told : goal.returns-clause-told
returns-clause-told c = λ t st x told there h.
    let r = c.args.self.now in
    let w = c.in-Claim.own in
    let own = claim_in t r st w h c.in-Claim.is in
    let some = subst (IsClaimingWith (λ w. (tree : Tree) × (w.block ≡ Some tree))) c.in-Claim.is c.requires.some in
    let bp = some.0.bp in
    let pointer = pointer_is (pointer_of own.bytes) w.block some.0 w.step own.is.asked own.is.slots some.1 own.is.claim in
    subst (λ (o : Own). IsRequestNode t (with_own r o c.arrive_ready.new.family) (heard_early st c.args.child x told)) (sym c.in-Claim.is)
    (tells_claim t r st w c.arrive_ready.new.family bp c.args.child x told h own pointer
    (c.arrive_ready.ensures.told bp h.kid_asked h.kid_slots st x told there (own_first t r st c.args.child x h own.all c.requires.seat there)
    (subst (λ p. IsOwnClaim w r.family p h.kid_asked h.kid_slots st) pointer (own_claim t r st w h own))))

pub returns-clause-over : goal.returns-clause-over
returns-clause-over c = λ tops over.
    let k = subst (λ (o : Own). IsOwnOver tops o c.args.self.now.family) c.in-Claim.is over in
    subst (λ (o : Own). IsOwnOver tops o c.arrive_ready.new.family) (sym c.in-Claim.is) (c.arrive_ready.ensures.sits k.0, k.1)

use Rattle.std.proofs.Common.{◌≡◌, ◌+◌, length, Some, subst}
use Rattle.zio_blkptr.specs.Pointers.{pointer_of}
use Rattle.zio_gang.specs.declared.tree.Tree.{Tree}
use Rattle.zio_trace.specs.Tasks.{WalkedBy}
use Rattle.zio_stages.specs.OwnClaims.{IsOwnClaim, LiesWalked}
use Rattle.zio_stages.specs.RequestClaims.{IsClaimingWith}
use Rattle.zio_stages.specs.RequestNodes.{IsOwnOver}
use Rattle.zio_stages.specs.declared.own_claim.ClaimStep.TheVariants.{Out}
use Rattle.zio_stages.specs.declared.request_node.Own.{Own}
use Rattle.zio_stages.proofs.RequestClaimMoves.{claim_in, hears_claim, own_claim, pointer_is}
use Rattle.zio_stages.proofs.RequestHears.{child_within}
use Rattle.zio_stages.proofs.RequestReadMoves.{own_first}
use Rattle.zio_stages.proofs.request_node.RequestNode.arrive_walked_claim.Goals as goal

pub arrive_walked-requires : goal.arrive_walked-requires
arrive_walked-requires c =
    let r = c.args.self.now in
    record {
      child = child_within r.family c.args.child (length r.kids.kids.kids + 0) c.requires.seat;
      out = subst (IsClaimingWith (λ w. w.step ≡ Out)) c.in-Claim.is c.requires.out;
      over = (subst (λ (o : Own). IsOwnOver c.args.tops.now o r.family) c.in-Claim.is c.requires.over).1;
      lies = subst (IsClaimingWith (λ w. (tree : Tree) × (w.block ≡ Some tree) × LiesWalked c.args.tops.now tree.bp c.args.walked)) c.in-Claim.is c.requires.lies;
    }

pub returns-clause-heard : goal.returns-clause-heard
returns-clause-heard c = λ t st x there h.
    let r = c.args.self.now in
    let w = c.in-Claim.own in
    let own = claim_in t r st w h c.in-Claim.is in
    let lies = subst (IsClaimingWith (λ w. (tree : Tree) × (w.block ≡ Some tree) × LiesWalked c.args.tops.now tree.bp c.args.walked)) c.in-Claim.is c.requires.lies in
    let bp = lies.0.bp in
    let pointer = pointer_is (pointer_of own.bytes) w.block lies.0 w.step own.is.asked own.is.slots lies.1 own.is.claim in
    hears_claim t r st w c.arrive_walked.new.self c.arrive_walked.new.family bp c.args.child x (WalkedBy c.args.walked) h own pointer
    (c.arrive_walked.ensures.heard bp h.kid_asked h.kid_slots st x there (own_first t r st c.args.child x h own.all c.requires.seat there)
    (subst (λ p. IsOwnClaim w r.family p h.kid_asked h.kid_slots st) pointer (own_claim t r st w h own)))

pub returns-clause-over : goal.returns-clause-over
returns-clause-over c = (c.arrive_walked.ensures.sits (subst (λ (o : Own). IsOwnOver c.args.tops.now o c.args.self.now.family) c.in-Claim.is c.requires.over).0, c.arrive_walked.ensures.over)

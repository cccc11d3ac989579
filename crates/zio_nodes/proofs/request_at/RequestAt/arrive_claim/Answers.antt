use Rattle.std.proofs.Common.{◌≡◌, Some, subst, sym}
use Rattle.zio_gang.specs.declared.tree.Tree.{Tree}
use Rattle.zio_trace.specs.Tasks.{Value}
use Rattle.zio_frames.specs.Moves.{heard_of}
use Rattle.zio_exchange.specs.Outcomes.{IsOutcome}
use Rattle.zio_stages.specs.OwnClaims.{LiesWalked}
use Rattle.zio_stages.specs.RequestClaims.{IsClaimingWith}
use Rattle.zio_stages.specs.RequestNodes.{IsRequestNode}
use Rattle.zio_stages.specs.Sealed.{Outcome}
use Rattle.zio_stages.specs.declared.own_claim.ClaimStep.TheVariants.{Out}
use Rattle.zio_stages.specs.declared.own_claim.OwnClaim.{OwnClaim}
use Rattle.zio_nodes.proofs.OwnHeard.{claimed_left_then, claimed_over}
use Rattle.zio_nodes.proofs.OwnHears.{behind_start, claimed_walks, hears_claimed}
use Rattle.zio_nodes.proofs.OwnLefts.{claim_gave_same}
use Rattle.zio_nodes.proofs.OwnOver.{is_claim}
use Rattle.zio_nodes.proofs.WriteHears.{hears_own}
use Rattle.zio_nodes.proofs.PassLemmas.{claim_in_pass}
use Rattle.zio_nodes.proofs.request_at.RequestAt.arrive_claim.Goals as goal

pub unreachable-requires : goal.unreachable-requires
unreachable-requires c =
    let at = c.args.self.now in
    let r = at.node in
    let tops = c.args.tops.now in
    let under = c.other_children_show_own_work.ensures.value r c.args.child (hears_own tops at c.args.child c.args.outcome c.requires.own c.requires.awaited) in
    claimed_walks tops at c.args.child c.args.outcome c.requires.own c.requires.kind under c.requires.awaited c.in_default.not-Walked

pub arrive_walked_claim-requires : goal.arrive_walked_claim-requires
arrive_walked_claim-requires c =
    let at = c.args.self.now in
    let r = at.node in
    let tops = c.args.tops.now in
    let under = c.other_children_show_own_work.ensures.value r c.args.child (hears_own tops at c.args.child c.args.outcome c.requires.own c.requires.awaited) in
    let x = hears_claimed tops at c.args.child c.args.outcome c.in-Walked.walked c.in-Walked.is c.requires.own c.requires.kind under c.requires.awaited in
    record {
      seat = x.seat;
      out = subst (IsClaimingWith (λ (w : OwnClaim). w.step ≡ Out)) (sym x.is) x.out;
      over = c.requires.over.over.own;
      lies = subst (IsClaimingWith (λ (w : OwnClaim). (tree : Tree) × (w.block ≡ Some tree) × LiesWalked tops tree.bp c.in-Walked.walked)) (sym x.is)
          (x.tree, x.block, x.lies);
    }

pub returns-clause-heard : goal.returns-clause-heard
returns-clause-heard c = λ t st d op v h.
    let shows = subst (λ (o : Outcome). IsOutcome t op o v) c.in-Walked.is h.shows in
    subst (λ (u : Value). IsRequestNode t c.arrive_walked_claim.new.self (heard_of st c.args.child d u)) (sym shows.1)
    (c.arrive_walked_claim.ensures.heard t st d h.there h.now.is)

pub returns-clause-gave : goal.returns-clause-gave
returns-clause-gave c =
    let r = c.args.self.now.node in
    claim_gave_same r c.arrive_walked_claim.new.self (is_claim r.waiting.request.work c.requires.kind) c.arrive_walked_claim.ensures.rest

pub returns-clause-over_still : goal.returns-clause-over_still
returns-clause-over_still c =
    let at = c.args.self.now in
    let r = at.node in
    let tops = c.args.tops.now in
    let under = c.other_children_show_own_work.ensures.value r c.args.child (hears_own tops at c.args.child c.args.outcome c.requires.own c.requires.awaited) in
    let x = hears_claimed tops at c.args.child c.args.outcome c.in-Walked.walked c.in-Walked.is c.requires.own c.requires.kind under c.requires.awaited in
    claimed_over tops at c.args.child c.arrive_walked_claim.new.self c.in-Walked.walked x (is_claim r.waiting.request.work c.requires.kind) c.requires.over
    (behind_start tops at c.requires.over under)
    c.arrive_walked_claim.ensures.rest c.arrive_walked_claim.ensures.over c.arrive_walked_claim.ensures.past

pub returns-clause-left : goal.returns-clause-left
returns-clause-left c =
    let at = c.args.self.now in
    let r = at.node in
    let tops = c.args.tops.now in
    let under = c.other_children_show_own_work.ensures.value r c.args.child (hears_own tops at c.args.child c.args.outcome c.requires.own c.requires.awaited) in
    claimed_left_then at c.arrive_walked_claim.new.self (is_claim r.waiting.request.work c.requires.kind) (behind_start tops at c.requires.over under)
    c.arrive_walked_claim.ensures.rest
    c.arrive_walked_claim.ensures.past

pub returns-clause-pass : goal.returns-clause-pass
returns-clause-pass c =
    let at = c.args.self.now in
    let r = at.node in
    let tops = c.args.tops.now in
    let under = c.other_children_show_own_work.ensures.value r c.args.child (hears_own tops at c.args.child c.args.outcome c.requires.own c.requires.awaited) in
    let x = hears_claimed tops at c.args.child c.args.outcome c.in-Walked.walked c.in-Walked.is c.requires.own c.requires.kind under c.requires.awaited in
    claim_in_pass _ r.own c.arrive_walked_claim.new.self.own x.own x.is c.arrive_walked_claim.ensures.past

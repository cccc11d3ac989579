use Rattle.std.proofs.Common.{◌≡◌, subst, sym}
use Rattle.zio_trace.specs.Tasks.{Value}
use Rattle.zio_frames.specs.Moves.{heard_of}
use Rattle.zio_exchange.specs.Outcomes.{IsOutcome}
use Rattle.zio_stages.specs.RequestFrees.{IsFreeingWith}
use Rattle.zio_stages.specs.RequestNodes.{IsRequestNode}
use Rattle.zio_stages.specs.Sealed.{Outcome}
use Rattle.zio_stages.specs.declared.own_free.FreeWalk.TheVariants.{Out}
use Rattle.zio_stages.specs.declared.own_free.OwnFree.{OwnFree}
use Rattle.zio_nodes.proofs.OwnHeard.{freed_gave, freed_left_then, freed_over}
use Rattle.zio_nodes.proofs.OwnHears.{behind_start, freed_walks, hears_freed}
use Rattle.zio_nodes.proofs.OwnOver.{is_free}
use Rattle.zio_nodes.proofs.WriteHears.{hears_own}
use Rattle.zio_nodes.proofs.PassLemmas.{free_in_pass}
use Rattle.zio_nodes.proofs.request_at.RequestAt.arrive_free.Goals as goal

pub unreachable-requires : goal.unreachable-requires
unreachable-requires c =
    let at = c.args.self.now in
    let r = at.node in
    let k = c.requires.awaited in
    let under = c.other_children_show_own_work.ensures.value r c.args.child (hears_own k.0 at c.args.child c.args.outcome c.requires.own k.1) in
    freed_walks k.0 at c.args.child c.args.outcome c.requires.own c.requires.kind under k.1 c.in_default.not-Walked

pub arrive_walked_free-requires : goal.arrive_walked_free-requires
arrive_walked_free-requires c =
    let at = c.args.self.now in
    let r = at.node in
    let k = c.requires.awaited in
    let under = c.other_children_show_own_work.ensures.value r c.args.child (hears_own k.0 at c.args.child c.args.outcome c.requires.own k.1) in
    let x = hears_freed k.0 at c.args.child c.args.outcome c.requires.own c.requires.kind under k.1 in
    record { seat = x.seat; out = subst (IsFreeingWith (λ (w : OwnFree). w.walk ≡ Out)) (sym x.is) x.out }

pub returns-clause-heard : goal.returns-clause-heard
returns-clause-heard c = λ tops t st d op v h.
    let shows = subst (λ (o : Outcome). IsOutcome t op o v) c.in-Walked.is h.shows in
    subst (λ (u : Value). IsRequestNode t c.arrive_walked_free.new.self (heard_of st c.args.child d u)) (sym shows.1)
    (c.arrive_walked_free.ensures.heard t st d h.there h.now.is)

pub returns-clause-gave : goal.returns-clause-gave
returns-clause-gave c =
    let at = c.args.self.now in
    let r = at.node in
    let k = c.requires.awaited in
    let under = c.other_children_show_own_work.ensures.value r c.args.child (hears_own k.0 at c.args.child c.args.outcome c.requires.own k.1) in
    let x = hears_freed k.0 at c.args.child c.args.outcome c.requires.own c.requires.kind under k.1 in
    freed_gave at c.args.child c.arrive_walked_free.new.self x (is_free r.waiting.request.work c.requires.kind) c.arrive_walked_free.ensures.rest
    c.arrive_walked_free.ensures.walked
    c.arrive_walked_free.ensures.given

pub returns-clause-over : goal.returns-clause-over
returns-clause-over c = λ tops over.
    let at = c.args.self.now in
    let r = at.node in
    let k = c.requires.awaited in
    let under = c.other_children_show_own_work.ensures.value r c.args.child (hears_own k.0 at c.args.child c.args.outcome c.requires.own k.1) in
    let x = hears_freed k.0 at c.args.child c.args.outcome c.requires.own c.requires.kind under k.1 in
    let now = c.arrive_walked_free.new.self in
    freed_over tops at c.args.child now x (is_free r.waiting.request.work c.requires.kind) over (behind_start tops at over under)
    c.arrive_walked_free.ensures.rest c.arrive_walked_free.ensures.waiting
    (c.arrive_walked_free.ensures.over tops over.over.own) c.arrive_walked_free.ensures.walked c.arrive_walked_free.ensures.given

pub returns-clause-left : goal.returns-clause-left
returns-clause-left c =
    let at = c.args.self.now in
    let r = at.node in
    let k = c.requires.awaited in
    let under = c.other_children_show_own_work.ensures.value r c.args.child (hears_own k.0 at c.args.child c.args.outcome c.requires.own k.1) in
    freed_left_then at c.arrive_walked_free.new.self (is_free r.waiting.request.work c.requires.kind)
    (behind_start c.requires.over.0 at c.requires.over.1 under) c.arrive_walked_free.ensures.rest
    c.arrive_walked_free.ensures.walked

pub returns-clause-pass : goal.returns-clause-pass
returns-clause-pass c =
    let at = c.args.self.now in
    let r = at.node in
    let k = c.requires.awaited in
    let under = c.other_children_show_own_work.ensures.value r c.args.child (hears_own k.0 at c.args.child c.args.outcome c.requires.own k.1) in
    let x = hears_freed k.0 at c.args.child c.args.outcome c.requires.own c.requires.kind under k.1 in
    free_in_pass _ r.own c.arrive_walked_free.new.self.own x.own x.is c.arrive_walked_free.ensures.walked

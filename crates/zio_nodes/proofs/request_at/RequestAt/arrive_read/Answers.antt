use Rattle.std.proofs.Common.{◌≡◌, List, Some, ap, inl, inr, refl, slice_get, subst, sym, ◌∙◌}
use Rattle.zio_types.specs.declared.request.ChildKind.{ChildKind}
use Rattle.zio_trace.specs.Tasks.{Value}
use Rattle.zio_frames.specs.Frames.{Child}
use Rattle.zio_frames.specs.Moves.{heard_of}
use Rattle.zio_exchange.specs.Outcomes.{IsOutcome}
use Rattle.zio_stages.specs.RequestNodes.{IsRequestNode}
use Rattle.zio_stages.specs.RequestReads.{IsBodyBeside, IsReadingWith, IsWalkAlone}
use Rattle.zio_stages.specs.Sealed.{Outcome}
use Rattle.zio_stages.specs.declared.own_read.OwnRead.{OwnRead}
use Rattle.zio_stages.proofs.RequestSits.{get_within}
use Rattle.zio_nodes.specs.RequestHears.{IsOwnOutcome}
use Rattle.zio_nodes.proofs.OwnHears.{behind_start, hears_gang, hears_leaf, hears_logical, hears_walk, read_no_part}
use Rattle.zio_nodes.proofs.ReadHeard.{gang_left_then, gang_over, leaf_left_then, leaf_over, walk_left_then, walk_over}
use Rattle.zio_nodes.proofs.OwnLefts.{read_gave_same}
use Rattle.zio_nodes.proofs.OwnOver.{is_read}
use Rattle.zio_nodes.proofs.OwnSeats.{one_seat, walk_is_out}
use Rattle.zio_nodes.proofs.WriteHears.{hears_own}
use Rattle.zio_nodes.proofs.PassLemmas.{body_in_pass, leaf_in_pass, walk_in_pass}
use Rattle.zio_nodes.proofs.request_at.RequestAt.arrive_read.Goals as goal

pub kind_of_child-requires : goal.kind_of_child-requires
kind_of_child-requires c =
    let r = c.args.self.now.node in
    let k = c.requires.awaited in
    get_within r.family c.args.child k.child (ap (λ (cs : List Child). slice_get cs c.args.child) k.hears.now.is.family ∙ k.hears.there)

pub arrive_walked_read-requires : goal.arrive_walked_read-requires
arrive_walked_read-requires c =
    let at = c.args.self.now in
    let r = at.node in
    let tops = c.args.tops.now in
    let under = c.other_children_show_own_work.ensures.value r c.args.child (hears_own tops at c.args.child c.args.outcome c.requires.own c.requires.awaited) in
    let x = hears_walk tops at c.args.child c.args.outcome c.in-Walked.walked c.bodies_of_a_walk_lie_on_the_tops.ensures c.in-Walked.is c.requires.kind under
    c.requires.over c.requires.awaited in
    record {
      seat = x.seat;
      out = subst (IsReadingWith IsWalkAlone) (sym x.is) (x.alone, walk_is_out x.own.tree x.out);
      on = x.on;
      over = c.requires.over.over.own;
    }

pub arrive_leaf_read-requires : goal.arrive_leaf_read-requires
arrive_leaf_read-requires c =
    let at = c.args.self.now in
    let r = at.node in
    let tops = c.args.tops.now in
    let under = c.other_children_show_own_work.ensures.value r c.args.child (hears_own tops at c.args.child c.args.outcome c.requires.own c.requires.awaited) in
    let of = sym (ap (λ (kind : ChildKind). Some kind) c.in-Vdev.is) ∙ c.kind_of_child.ensures in
    let x = hears_leaf tops at c.args.child c.args.outcome c.in-Found.found c.in-Found.is c.requires.kind under of c.requires.awaited in
    record { reads = subst (IsReadingWith (λ (w : OwnRead). Unit {0})) (sym x.is) tt; over = c.requires.over.over.own; awaited = x.awaited }

pub own_number-n-requires : goal.own_number-n-requires
own_number-n-requires c =
    let at = c.args.self.now in
    let r = at.node in
    let tops = c.args.tops.now in
    let under = c.other_children_show_own_work.ensures.value r c.args.child (hears_own tops at c.args.child c.args.outcome c.requires.own c.requires.awaited) in
    let of = sym (ap (λ (kind : ChildKind). Some kind) c.in-Gang.is) ∙ c.kind_of_child.ensures in
    let x = hears_gang tops at c.args.child c.args.outcome c.in-Found.found c.in-Found.is c.requires.kind under of c.requires.awaited in
    (x.body.number, x.body.seat)

pub arrive_body-requires : goal.arrive_body-requires
arrive_body-requires c =
    let at = c.args.self.now in
    let r = at.node in
    let tops = c.args.tops.now in
    let under = c.other_children_show_own_work.ensures.value r c.args.child (hears_own tops at c.args.child c.args.outcome c.requires.own c.requires.awaited) in
    let of = sym (ap (λ (kind : ChildKind). Some kind) c.in-Gang.is) ∙ c.kind_of_child.ensures in
    let x = hears_gang tops at c.args.child c.args.outcome c.in-Found.found c.in-Found.is c.requires.kind under of c.requires.awaited in
    let same : x.body.number ≡ c.own_number-n.result = one_seat r c.args.child x.body.number c.own_number-n.result x.body.seat c.own_number-n.ensures in
    let out : IsBodyBeside x.body.number x.own = (x.body.out, x.body.beside) in
    record {
      seat = c.own_number-n.ensures;
      out = subst (IsReadingWith (IsBodyBeside c.own_number-n.result)) (sym x.is) (subst (λ n. IsBodyBeside n x.own) same out);
      over = c.requires.over.over.own;
    }

pub unreachable-requires : goal.unreachable-requires
unreachable-requires c =
    let of = sym (ap (λ (kind : ChildKind). Some kind) c.in-Logical.is) ∙ c.kind_of_child.ensures in
    hears_logical c.args.tops.now c.args.self.now c.args.child c.args.outcome c.in-Found.found c.in-Found.is of c.requires.awaited

pub unreachable-requires-in-Finished : goal.unreachable-requires-in-Finished
unreachable-requires-in-Finished c =
    let at = c.args.self.now in
    let r = at.node in
    let tops = c.args.tops.now in
    let under = c.other_children_show_own_work.ensures.value r c.args.child (hears_own tops at c.args.child c.args.outcome c.requires.own c.requires.awaited) in
    elim c.in-Finished.is [
      | inl f ↦ subst IsOwnOutcome f.1 c.requires.own
      | inr rest ↦ elim rest [
        | inl a ↦ subst IsOwnOutcome a.3 c.requires.own
        | inr p ↦ read_no_part tops at c.args.child c.args.outcome p.0 p.1 c.requires.kind under c.requires.awaited c.requires.own
      ]
    ]

pub returns-in-Walked-clause-heard : goal.returns-in-Walked-clause-heard
returns-in-Walked-clause-heard c = λ t st d op v h.
    let shows = subst (λ (o : Outcome). IsOutcome t op o v) c.in-Walked.is h.shows in
    subst (λ (u : Value). IsRequestNode t c.arrive_walked_read.new.self (heard_of st c.args.child d u)) (sym shows.1)
    (c.arrive_walked_read.ensures.heard t st d h.there h.now.is)

pub returns-in-Walked-clause-gave : goal.returns-in-Walked-clause-gave
returns-in-Walked-clause-gave c =
    let r = c.args.self.now.node in
    read_gave_same r c.arrive_walked_read.new.self (is_read r.waiting.request.work c.requires.kind) c.arrive_walked_read.ensures.rest

pub returns-in-Walked-clause-over_still : goal.returns-in-Walked-clause-over_still
returns-in-Walked-clause-over_still c =
    let at = c.args.self.now in
    let r = at.node in
    let tops = c.args.tops.now in
    let under = c.other_children_show_own_work.ensures.value r c.args.child (hears_own tops at c.args.child c.args.outcome c.requires.own c.requires.awaited) in
    let x = hears_walk tops at c.args.child c.args.outcome c.in-Walked.walked c.bodies_of_a_walk_lie_on_the_tops.ensures c.in-Walked.is c.requires.kind under
    c.requires.over c.requires.awaited in
    let work = is_read r.waiting.request.work c.requires.kind in
    let behind = behind_start tops at c.requires.over under in
    let now = c.arrive_walked_read.new.self in
    walk_over tops at c.args.child now c.in-Walked.walked x work c.requires.over behind c.arrive_walked_read.ensures.rest c.arrive_walked_read.ensures.waiting
    c.arrive_walked_read.ensures.over c.arrive_walked_read.ensures.goes c.arrive_walked_read.ensures.reads

pub returns-in-Walked-clause-left : goal.returns-in-Walked-clause-left
returns-in-Walked-clause-left c =
    let at = c.args.self.now in
    let r = at.node in
    let tops = c.args.tops.now in
    let under = c.other_children_show_own_work.ensures.value r c.args.child (hears_own tops at c.args.child c.args.outcome c.requires.own c.requires.awaited) in
    let x = hears_walk tops at c.args.child c.args.outcome c.in-Walked.walked c.bodies_of_a_walk_lie_on_the_tops.ensures c.in-Walked.is c.requires.kind under
    c.requires.over c.requires.awaited in
    let work = is_read r.waiting.request.work c.requires.kind in
    let behind = behind_start tops at c.requires.over under in
    let now = c.arrive_walked_read.new.self in
    walk_left_then tops at c.args.child now c.in-Walked.walked x work behind c.arrive_walked_read.ensures.rest c.arrive_walked_read.ensures.goes
    c.arrive_walked_read.ensures.reads

pub returns-in-Vdev-clause-heard : goal.returns-in-Vdev-clause-heard
returns-in-Vdev-clause-heard c = λ t st d op v h.
    let shows = subst (λ (o : Outcome). IsOutcome t op o v) c.in-Found.is h.shows in
    subst (λ (u : Value). IsRequestNode t c.arrive_leaf_read.new.self (heard_of st c.args.child d u)) (sym shows.1)
    (c.arrive_leaf_read.ensures.heard t st d c.in-Found.found h.now.tops_are refl h.there h.now.is)

pub returns-in-Vdev-clause-gave : goal.returns-in-Vdev-clause-gave
returns-in-Vdev-clause-gave c =
    let r = c.args.self.now.node in
    read_gave_same r c.arrive_leaf_read.new.self (is_read r.waiting.request.work c.requires.kind) c.arrive_leaf_read.ensures.rest

pub returns-in-Vdev-clause-over_still : goal.returns-in-Vdev-clause-over_still
returns-in-Vdev-clause-over_still c =
    let at = c.args.self.now in
    let r = at.node in
    let tops = c.args.tops.now in
    let under = c.other_children_show_own_work.ensures.value r c.args.child (hears_own tops at c.args.child c.args.outcome c.requires.own c.requires.awaited) in
    let of = sym (ap (λ (kind : ChildKind). Some kind) c.in-Vdev.is) ∙ c.kind_of_child.ensures in
    let x = hears_leaf tops at c.args.child c.args.outcome c.in-Found.found c.in-Found.is c.requires.kind under of c.requires.awaited in
    let work = is_read r.waiting.request.work c.requires.kind in
    let behind = behind_start tops at c.requires.over under in
    let now = c.arrive_leaf_read.new.self in
    leaf_over tops at c.args.child now x work c.requires.over behind c.arrive_leaf_read.ensures.rest c.arrive_leaf_read.ensures.waiting
    c.arrive_leaf_read.ensures.over c.arrive_leaf_read.ensures.goes

pub returns-in-Vdev-clause-left : goal.returns-in-Vdev-clause-left
returns-in-Vdev-clause-left c =
    let at = c.args.self.now in
    let r = at.node in
    let tops = c.args.tops.now in
    let under = c.other_children_show_own_work.ensures.value r c.args.child (hears_own tops at c.args.child c.args.outcome c.requires.own c.requires.awaited) in
    let of = sym (ap (λ (kind : ChildKind). Some kind) c.in-Vdev.is) ∙ c.kind_of_child.ensures in
    let x = hears_leaf tops at c.args.child c.args.outcome c.in-Found.found c.in-Found.is c.requires.kind under of c.requires.awaited in
    let work = is_read r.waiting.request.work c.requires.kind in
    let behind = behind_start tops at c.requires.over under in
    let now = c.arrive_leaf_read.new.self in
    leaf_left_then at c.args.child now x work behind c.arrive_leaf_read.ensures.rest c.arrive_leaf_read.ensures.goes

pub returns-in-Gang-clause-heard : goal.returns-in-Gang-clause-heard
returns-in-Gang-clause-heard c = λ t st d op v h.
    let shows = subst (λ (o : Outcome). IsOutcome t op o v) c.in-Found.is h.shows in
    subst (λ (u : Value). IsRequestNode t c.arrive_body.new.self (heard_of st c.args.child d u)) (sym shows.1)
    (c.arrive_body.ensures.heard t st d c.in-Found.found c.into_found.ensures h.there h.now.is)

pub returns-in-Gang-clause-gave : goal.returns-in-Gang-clause-gave
returns-in-Gang-clause-gave c =
    let r = c.args.self.now.node in
    read_gave_same r c.arrive_body.new.self (is_read r.waiting.request.work c.requires.kind) c.arrive_body.ensures.rest

pub returns-in-Gang-clause-over_still : goal.returns-in-Gang-clause-over_still
returns-in-Gang-clause-over_still c =
    let at = c.args.self.now in
    let r = at.node in
    let tops = c.args.tops.now in
    let under = c.other_children_show_own_work.ensures.value r c.args.child (hears_own tops at c.args.child c.args.outcome c.requires.own c.requires.awaited) in
    let of = sym (ap (λ (kind : ChildKind). Some kind) c.in-Gang.is) ∙ c.kind_of_child.ensures in
    let x = hears_gang tops at c.args.child c.args.outcome c.in-Found.found c.in-Found.is c.requires.kind under of c.requires.awaited in
    let work = is_read r.waiting.request.work c.requires.kind in
    let behind = behind_start tops at c.requires.over under in
    let now = c.arrive_body.new.self in
    gang_over tops at c.args.child now x work c.requires.over behind c.arrive_body.ensures.rest c.arrive_body.ensures.waiting c.arrive_body.ensures.over
    c.arrive_body.ensures.goes

pub returns-in-Gang-clause-left : goal.returns-in-Gang-clause-left
returns-in-Gang-clause-left c =
    let at = c.args.self.now in
    let r = at.node in
    let tops = c.args.tops.now in
    let under = c.other_children_show_own_work.ensures.value r c.args.child (hears_own tops at c.args.child c.args.outcome c.requires.own c.requires.awaited) in
    let of = sym (ap (λ (kind : ChildKind). Some kind) c.in-Gang.is) ∙ c.kind_of_child.ensures in
    let x = hears_gang tops at c.args.child c.args.outcome c.in-Found.found c.in-Found.is c.requires.kind under of c.requires.awaited in
    let work = is_read r.waiting.request.work c.requires.kind in
    let behind = behind_start tops at c.requires.over under in
    let now = c.arrive_body.new.self in
    gang_left_then at c.args.child now x work behind c.arrive_body.ensures.rest c.arrive_body.ensures.goes

pub returns-in-Walked-clause-pass : goal.returns-in-Walked-clause-pass
returns-in-Walked-clause-pass c =
    let at = c.args.self.now in
    let r = at.node in
    let tops = c.args.tops.now in
    let under = c.other_children_show_own_work.ensures.value r c.args.child (hears_own tops at c.args.child c.args.outcome c.requires.own c.requires.awaited) in
    let x = hears_walk tops at c.args.child c.args.outcome c.in-Walked.walked c.bodies_of_a_walk_lie_on_the_tops.ensures c.in-Walked.is c.requires.kind under
    c.requires.over c.requires.awaited in
    walk_in_pass _ r.own c.arrive_walked_read.new.self.own x.own x.is x.alone c.arrive_walked_read.ensures.reads c.arrive_walked_read.ensures.goes

pub returns-in-Vdev-clause-pass : goal.returns-in-Vdev-clause-pass
returns-in-Vdev-clause-pass c = leaf_in_pass c.args.self.now.node.own c.arrive_leaf_read.new.self.own c.arrive_leaf_read.ensures.goes

pub returns-in-Gang-clause-pass : goal.returns-in-Gang-clause-pass
returns-in-Gang-clause-pass c = body_in_pass c.args.self.now.node.own c.arrive_body.new.self.own c.arrive_body.ensures.goes

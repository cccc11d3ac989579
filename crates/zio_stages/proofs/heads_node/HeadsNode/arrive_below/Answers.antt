use Rattle.std.proofs.Common.{◌≡◌, ◌+◌, ◌-◌, ◌∙◌, ℕ, suc, Some, slice_get, slice_set, sym, ap, subst, refl, arith}
use Rattle.zio_trace.specs.Tasks.{Value, WalkedBy}
use Rattle.zio_frames.specs.Frames.{OfOuter, with_slot}
use Rattle.zio_frames.specs.Moves.{child_ended}
use Rattle.zio_frames.specs.Slots.{Heard}
use Rattle.zio_parts.specs.HeadWalks.{Walking, slots_of}
use Rattle.zio_stages.specs.HeadsNodes.{with_slots}
use Rattle.zio_stages.specs.HeadsWorks.{IsHeadsWork}
use Rattle.zio_stages.specs.NodeChildren.{seat_of}
use Rattle.zio_stages.specs.declared.family.Layer.TheVariants.{Own}
use Rattle.zio_stages.specs.declared.heads_node.HeadsNode.{HeadsNode}
use Rattle.zio_stages.proofs.HeadsNodeLemmas.{SitsLater, heard_at, inside_heard, known, sits_later}
use Rattle.zio_stages.proofs.HeadsOver.{count_set, heard_below_over}
use Rattle.zio_stages.proofs.NodeIoLemmas.{ended_is, seat_there}
use Rattle.zio_stages.proofs.RequestSits.{get_within}
use Rattle.zio_stages.proofs.heads_node.HeadsNode.arrive_below.Goals as goal

pub seat-requires : goal.seat-requires
seat-requires c =
    let r = c.requires.awaited in
    get_within c.args.self.now.family c.args.child r.child (known r.terms c.args.tops.now c.args.self.now r.stack c.args.child r.child r.op r.value r.hears.node_is r.hears.hears)

pub hear_below-requires-clause-behind : goal.hear_below-requires-clause-behind
hear_below-requires-clause-behind c =
    let old = c.args.self.now in
    let r = c.requires.awaited in
    let s : SitsLater old r.stack r.child r.op = sits_later r.terms c.args.tops.now old r.stack c.args.child r.child r.op r.value c.args.walked r.hears in
    let there = known r.terms c.args.tops.now old r.stack c.args.child r.child r.op r.value r.hears.node_is r.hears.hears in
    let number : c.number-n.result ≡ s.sits.number =
    c.number-n.ensures Own s.sits.number (seat_there old.family c.args.child r.child (seat_of c.seat.result) there c.seat.ensures ∙ s.sits.seat) in
    omega (arith, s.later, number)

pub hear_below-requires-clause-out : goal.hear_below-requires-clause-out
hear_below-requires-clause-out c =
    let old = c.args.self.now in
    let r = c.requires.awaited in
    let s : SitsLater old r.stack r.child r.op = sits_later r.terms c.args.tops.now old r.stack c.args.child r.child r.op r.value c.args.walked r.hears in
    let there = known r.terms c.args.tops.now old r.stack c.args.child r.child r.op r.value r.hears.node_is r.hears.hears in
    let number : c.number-n.result ≡ s.sits.number =
    c.number-n.ensures Own s.sits.number (seat_there old.family c.args.child r.child (seat_of c.seat.result) there c.seat.ensures ∙ s.sits.seat) in
    ap (λ k. slice_get (slots_of old.work.walk) k) number ∙ s.sits.out

pub end-requires : goal.end-requires
end-requires c =
    let r = c.requires.awaited in
    get_within c.args.self.now.family c.args.child r.child (known r.terms c.args.tops.now c.args.self.now r.stack c.args.child r.child r.op r.value r.hears.node_is r.hears.hears)

pub returns-clause-heard : goal.returns-clause-heard
returns-clause-heard c = λ t st x op v h.
    let old = c.args.self.now in
    let n : ℕ = c.number-n.result in
    let new : HeadsNode = record { work = c.hear_below.new.self; family = c.end.new.self; name = old.name; prio = old.prio } in
    let s : SitsLater old st x op = sits_later t c.args.tops.now old st c.args.child x op v c.args.walked h in
    let there : slice_get old.family c.args.child ≡ Some x = known t c.args.tops.now old st c.args.child x op v h.node_is h.hears in
    let number : n ≡ s.sits.number = c.number-n.ensures Own s.sits.number (seat_there old.family c.args.child x (seat_of c.seat.result) there c.seat.ensures ∙ s.sits.seat) in
    let before : suc (n - 1) ≡ s.sits.number = omega (arith, s.later, number) in
    let members = ap (λ (k : Walking). k.members) c.hear_below.ensures.walk in
    heard_at t old new st c.args.child n x v h.node_is (s.sits.seat ∙ ap OfOuter (sym number)) (ended_is old.family new.family c.args.child x there c.end.ensures)
    (subst (λ (y : Value). IsHeadsWork t new.work (with_slot (with_slots st.outer h.node_is.begun) n (Heard y))) (sym h.value_is) (c.hear_below.ensures.heard t (with_slots st.outer h.node_is.begun) h.node_is.part))
    (λ m q left e is. inside_heard t st.outer.asked old.work.walk.members (n - 1) op c.args.walked (ap (λ k. slice_get st.outer.asked k) before ∙ s.sits.asked) h.inside h.node_is.inside m q left e (ap (λ ms. slice_get ms m) (sym members) ∙ is))

pub returns-clause-over : goal.returns-clause-over
returns-clause-over c =
    let old = c.args.self.now in
    let n : ℕ = c.number-n.result in
    let r = c.requires.awaited in
    let new : HeadsNode = record { work = c.hear_below.new.self; family = c.end.new.self; name = old.name; prio = old.prio } in
    let there : slice_get old.family c.args.child ≡ Some r.child = known r.terms c.args.tops.now old r.stack c.args.child r.child r.op r.value r.hears.node_is r.hears.hears in
    heard_below_over c.args.tops.now old new (slice_set old.work.walk.members (n - 1) (Some c.args.walked)) c.requires.over c.hear_below.ensures.walk c.hear_below.ensures.heads refl
    (count_set old.family new.family c.args.child (child_ended r.child) (slots_of old.work.walk) (slots_of new.work.walk) ((n - 1) + 1) (Heard (WalkedBy c.args.walked)) c.requires.over.count
    (ended_is old.family new.family c.args.child r.child there c.end.ensures) c.hear_below.ensures.slots)

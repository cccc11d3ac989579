use Rattle.std.proofs.Common.{◌≡◌, ◌∙◌, Some, slice_get, sym, ap, subst, refl}
use Rattle.zio_trace.specs.Leaves.{Answer}
use Rattle.zio_trace.specs.Tasks.{Got, Value}
use Rattle.zio_frames.specs.Frames.{with_slot}
use Rattle.zio_frames.specs.Moves.{child_ended}
use Rattle.zio_frames.specs.Slots.{Heard}
use Rattle.zio_parts.specs.HeadWalks.{Walking, slots_of}
use Rattle.zio_stages.specs.HeadsNodes.{with_slots}
use Rattle.zio_stages.specs.HeadsWorks.{IsHeadsWork}
use Rattle.zio_stages.specs.declared.heads_node.HeadsNode.{HeadsNode}
use Rattle.zio_stages.proofs.HeadsNodeLemmas.{heard_at, known, sits_first}
use Rattle.zio_stages.proofs.HeadsOver.{IsGoodFound, count_set, found_long, good_arrival, heard_head_over}
use Rattle.zio_stages.proofs.NodeIoLemmas.{ended_is}
use Rattle.zio_stages.proofs.RequestSits.{get_within}
use Rattle.zio_stages.proofs.heads_node.HeadsNode.arrive_head.Goals as goal

pub header_of-requires : goal.header_of-requires
header_of-requires c =
    let old = c.args.self.now in
    found_long c.args.tops.now old.work.walk.claim c.args.found.now (good_arrival c.args.tops.now old c.args.child c.args.found.now c.requires.over c.requires.awaited).good

pub hear_head-requires : goal.hear_head-requires
hear_head-requires c = (good_arrival c.args.tops.now c.args.self.now c.args.child c.args.found.now c.requires.over c.requires.awaited).slot

pub end-requires : goal.end-requires
end-requires c =
    let a = good_arrival c.args.tops.now c.args.self.now c.args.child c.args.found.now c.requires.over c.requires.awaited in
    get_within c.args.self.now.family c.args.child a.child a.there

pub returns-clause-heard : goal.returns-clause-heard
returns-clause-heard c = λ t st x op v h.
    let old = c.args.self.now in
    let new : HeadsNode = record { work = c.hear_head.new.self; family = c.end.new.self; name = old.name; prio = old.prio } in
    let first = sits_first t c.args.tops.now old st c.args.child x op v c.args.found.now h in
    let there : slice_get old.family c.args.child ≡ Some x = known t c.args.tops.now old st c.args.child x op v h.node_is h.hears in
    let value : Got c.header_of.result ≡ v = ap Got c.header_of.ensures ∙ sym h.value_is in
    heard_at t old new st c.args.child 0 x v h.node_is first.seat (ended_is old.family new.family c.args.child x there c.end.ensures)
    (subst (λ (y : Value). IsHeadsWork t new.work (with_slot (with_slots st.outer h.node_is.begun) 0 (Heard y))) value (c.in_ok-hear_head.ensures.heard t (with_slots st.outer h.node_is.begun) h.node_is.part))
    (λ n q left e is. h.node_is.inside n q left e (ap (λ (k : Walking). slice_get k.members n) (sym c.in_ok-hear_head.ensures.walk) ∙ is))

pub returns-clause-over : goal.returns-clause-over
returns-clause-over c =
    let old = c.args.self.now in
    let new : HeadsNode = record { work = c.hear_head.new.self; family = c.end.new.self; name = old.name; prio = old.prio } in
    let a = good_arrival c.args.tops.now old c.args.child c.args.found.now c.requires.over c.requires.awaited in
    let good : IsGoodFound c.args.tops.now old.work.walk.claim c.header_of.result = subst (λ (f : Answer). IsGoodFound c.args.tops.now old.work.walk.claim f) (sym c.header_of.ensures) a.good in
    heard_head_over c.args.tops.now old new c.header_of.result c.requires.over a.out good c.in_ok-hear_head.ensures.walk c.in_ok-hear_head.ensures.heads refl
    (count_set old.family new.family c.args.child (child_ended a.child) (slots_of old.work.walk) (slots_of new.work.walk) 0 (Heard (Got c.header_of.result)) c.requires.over.count
    (ended_is old.family new.family c.args.child a.child a.there c.end.ensures) c.in_ok-hear_head.ensures.slots)

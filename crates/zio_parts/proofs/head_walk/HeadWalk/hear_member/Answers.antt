use Rattle.std.proofs.Common.{◌<◌, ◌+◌, ◌∙◌, sym, ap, length, set, None, Some, arith, add-one, length-set}
use Rattle.zio_trace.specs.Tasks.{WalkedBy}
use Rattle.zio_parts.specs.HeadWalks.{left_of_walk, named_by, Walking, slots_of, walking_from, with_members}
use Rattle.zio_frames.specs.Slots.{Heard}
use Rattle.zio_parts.proofs.AnsweredLemmas.{take_set_in}
use Rattle.zio_frames.proofs.SlotLemmas.{heard_left}
use Rattle.zio_parts.proofs.WalkLemmas.{heard_out, heard_slots, held_get, none_behind, some_named}
use Rattle.zio_parts.proofs.WalkSteps.{few_handed}
use Rattle.zio_parts.proofs.head_walk.HeadWalk.hear_member.Goals as goal

pub way_replace-left : goal.way_replace-left
way_replace-left c =
    let x = c.self.inside in
    let handed : c.args.n < x.handed = held_get x.handed c.args.n x.left None (rw (← c.self.view_is) at c.requires) in
    let few = few_handed x.levels x.path x.bp x.judged x.header x.members x.handed x.left c.self.invariant in
    omega arith

pub listed : goal.listed
listed c =
    let below : c.args.n < 3 = way_replace-left c in
    let three = c.self.invariant.three in
    omega arith

pub invariant_of-self : goal.invariant_of-self
invariant_of-self c =
    let x = c.self.inside in
    let i = c.self.invariant in
    let handed : c.args.n < x.handed = held_get x.handed c.args.n x.left None (rw (← c.self.view_is) at c.requires) in
    record {
      depth = i.depth;
      asked = i.asked;
      named = i.named;
      within = i.within;
      three = length-set x.left c.args.n _ ∙ i.three;
      behind = none_behind x.handed c.args.n x.left (Some c.args.walked) handed i.behind;
    }

pub returns-clause-heard : goal.returns-clause-heard
returns-clause-heard c =
    let x = c.self.inside in
    rw (← c.self.view_is) (ap (λ ms. let w : Walking = record { claim = x.claim; levels = x.levels; path = x.path; bp = x.bp; judged = x.judged; header = x.header; members = ms } in w) (take_set_in x.handed x.left c.args.n (Some c.args.walked)))

pub returns-clause-slots : goal.returns-clause-slots
returns-clause-slots c =
    let x = c.self.inside in
    let some : 0 < length (named_by c.args.self.now.header) =
    rw (← c.self.view_is) (some_named x.handed x.members x.header x.left c.args.n c.self.invariant.named c.self.invariant.within (rw (← c.self.view_is) at c.requires)) in
    ap slots_of (returns-clause-heard c)
    ∙ heard_slots c.args.self.now.header c.args.self.now.members c.args.n c.args.walked some
    ∙ ap (λ k. set (slots_of c.args.self.now) k (Heard (WalkedBy c.args.walked))) (sym (add-one c.args.n))

pub returns-clause-left : goal.returns-clause-left
returns-clause-left c = λ heads.
    let x = c.self.inside in
    let some : 0 < length (named_by c.args.self.now.header) =
    rw (← c.self.view_is) (some_named x.handed x.members x.header x.left c.args.n c.self.invariant.named c.self.invariant.within (rw (← c.self.view_is) at c.requires)) in
    ap (left_of_walk heads) (returns-clause-heard c)
    ∙ heard_left (c.args.n + 1) (WalkedBy c.args.walked) (slots_of c.args.self.now) (slots_of (with_members c.args.self.now (set c.args.self.now.members c.args.n (Some c.args.walked)))) (walking_from heads c.args.self.now)
    (rw (add-one) (heard_out c.args.self.now.header c.args.self.now.members c.args.n some c.requires))
    (sym (ap slots_of (returns-clause-heard c)) ∙ returns-clause-slots c)

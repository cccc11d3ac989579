use Rattle.std.proofs.Common.{◌<◌, ◌∙◌, ap, length, None, [], ◌∷◌, ◌++◌, arith}
use Rattle.zio_parts.specs.HeadWalks.{left_of_walk, Walking, slots_of, walking_from, with_members}
use Rattle.zio_frames.proofs.SlotLemmas.{handed_left}
use Rattle.zio_parts.proofs.WalkLemmas.{handed_slots, held_more, held_room, none_more}
use Rattle.zio_parts.proofs.head_walk.HeadWalk.hand_out_member.Goals as goal

pub overflow_add-self : goal.overflow_add-self
overflow_add-self c =
    let x = c.self.inside in
    let room : x.handed < 3 = (held_room x.handed x.left x.header c.self.invariant.three (rw (← c.self.view_is) at c.requires)).0 in
    omega arith

pub invariant_of-self : goal.invariant_of-self
invariant_of-self c =
    let x = c.self.inside in
    let i = c.self.invariant in
    let room = held_room x.handed x.left x.header i.three (rw (← c.self.view_is) at c.requires) in
    let same = ap length i.named in
    record {
      depth = i.depth;
      asked = i.asked;
      named = i.named;
      within = omega (arith, room.1, same);
      three = i.three;
      behind = none_more x.handed x.left i.three room.0 i.behind;
    }

pub returns-clause-handed : goal.returns-clause-handed
returns-clause-handed c =
    let x = c.self.inside in
    let i = c.self.invariant in
    let room = held_room x.handed x.left x.header i.three (rw (← c.self.view_is) at c.requires) in
    rw (← c.self.view_is) (ap (λ ms. let w : Walking = record { claim = x.claim; levels = x.levels; path = x.path; bp = x.bp; judged = x.judged; header = x.header; members = ms } in w) (held_more x.handed x.left i.three room.0 i.behind))

pub returns-clause-slots : goal.returns-clause-slots
returns-clause-slots c =
    ap slots_of (returns-clause-handed c) ∙ handed_slots c.args.self.now.header c.args.self.now.members c.requires

pub returns-clause-left : goal.returns-clause-left
returns-clause-left c = λ heads.
    ap (left_of_walk heads) (returns-clause-handed c)
    ∙ handed_left (slots_of c.args.self.now) (slots_of (with_members c.args.self.now (c.args.self.now.members ++ None ∷ []))) (walking_from heads c.args.self.now)
    (handed_slots c.args.self.now.header c.args.self.now.members c.requires)

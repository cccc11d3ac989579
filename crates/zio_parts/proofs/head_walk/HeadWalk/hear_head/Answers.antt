use Rattle.std.proofs.Common.{◌≡◌, ◌∙◌, sym, ap, subst, refl, arith}
use Rattle.zio_trace.specs.Tasks.{Got}
use Rattle.zio_parts.specs.HeadWalks.{header_by, is_followed, left_of_walk, slots_of, walking_from, with_header}
use Rattle.zio_parts.specs.WalkFields.{IsAskedFor}
use Rattle.zio_parts.specs.declared.head_walk.Header.TheVariants.{Out}
use Rattle.zio_frames.proofs.SlotLemmas.{heard_left}
use Rattle.zio_parts.proofs.WalkLemmas.{none_handed, out_slots, read_slots}
use Rattle.zio_parts.proofs.head_walk.HeadWalk.hear_head.Goals as goal

pub invariant_of-self : goal.invariant_of-self
invariant_of-self c =
    let x = c.self.inside in
    let i = c.self.invariant in
    let out : x.header ≡ Out = rw (← c.self.view_is) at c.requires in
    let zero : x.handed ≡ 0 = none_handed x.handed x.members x.header i.named i.within out in
    record {
      depth = i.depth;
      asked = subst (IsAskedFor (is_followed x.judged x.bp.gang x.levels)) out i.asked;
      named = c.in_ok-self-inside-in-Ok.ensures;
      within = omega arith;
      three = i.three;
      behind = i.behind;
    }

pub returns-in_ok-self-inside-in-Ok-clause-heard : goal.returns-in_ok-self-inside-in-Ok-clause-heard
returns-in_ok-self-inside-in-Ok-clause-heard c = rw (← c.self.view_is, c.in-Ok.is) refl

pub returns-in_ok-self-inside-in-Ok-clause-slots : goal.returns-in_ok-self-inside-in-Ok-clause-slots
returns-in_ok-self-inside-in-Ok-clause-slots c =
    let x = c.self.inside in
    let i = c.self.invariant in
    let out : x.header ≡ Out = rw (← c.self.view_is) at c.requires in
    let zero : x.handed ≡ 0 = none_handed x.handed x.members x.header i.named i.within out in
    rw (← c.self.view_is) (read_slots x.handed x.left x.header c.args.found c.in-Ok.bytes out zero c.in-Ok.is)

pub returns-in_ok-self-inside-in-Ok-clause-left : goal.returns-in_ok-self-inside-in-Ok-clause-left
returns-in_ok-self-inside-in-Ok-clause-left c = λ heads.
    ap (left_of_walk heads) (returns-in_ok-self-inside-in-Ok-clause-heard c)
    ∙ heard_left 0 (Got c.args.found) (slots_of c.args.self.now) (slots_of (with_header c.args.self.now (header_by c.args.found))) (walking_from heads c.args.self.now)
    (out_slots c.args.self.now.header c.args.self.now.members c.requires)
    (sym (ap slots_of (returns-in_ok-self-inside-in-Ok-clause-heard c)) ∙ returns-in_ok-self-inside-in-Ok-clause-slots c)

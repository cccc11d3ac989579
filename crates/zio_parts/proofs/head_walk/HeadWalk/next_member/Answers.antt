use Rattle.std.proofs.Common.{◌≡◌, ◌-◌, ◌∙◌, refl, sym, ap, subst, slice_get, None, Some, arith}
use Rattle.zio_parts.specs.HeadWalks.{ShowsWalk, Walking}
use Rattle.zio_parts.specs.declared.head_walk.MemberWalk.{MemberWalk}
use Rattle.zio_parts.specs.declared.head_walk.WalkStep.TheVariants.{Member, Wait, End}
use Rattle.zio_parts.proofs.WalkSteps.{end_shown, few_handed, is_deep, is_within, member_shown, wait_shown}
use Rattle.zio_parts.proofs.head_walk.HeadWalk.next_member.Goals as goal

pub overflow_cast-n : goal.overflow_cast-n
overflow_cast-n c =
    let x = c.self.inside in
    let few = few_handed x.levels x.path x.bp x.judged x.header x.members x.handed x.left c.self.invariant in
    omega arith

pub overflow_sub-result : goal.overflow_sub-result
overflow_sub-result c =
    let x = c.self.inside in
    is_deep x.judged x.bp.gang x.levels x.header c.self.invariant.asked (rw (← c.self.view_is) at c.requires)

pub below-requires-clause-member : goal.below-requires-clause-member
below-requires-clause-member c =
    let x = c.self.inside in
    let got : slice_get x.members x.handed ≡ Some c.in-Some.bp = ap (λ ms. slice_get ms x.handed) (sym c.as_slice.ensures) ∙ sym c.nth.ensures ∙ c.in-Some.is in
    is_within x.levels x.path x.bp x.judged x.header x.members x.handed x.left c.in-Some.bp c.self.invariant got

pub below-requires-clause-room : goal.below-requires-clause-room
below-requires-clause-room c =
    let x = c.self.inside in
    let deep = is_deep x.judged x.bp.gang x.levels x.header c.self.invariant.asked (rw (← c.self.view_is) at c.requires) in
    let depth = c.self.invariant.depth in
    omega arith

pub shared_whole_as_front-is_any_out : goal.shared_whole_as_front-is_any_out
shared_whole_as_front-is_any_out c =
    let x = c.self.inside in
    (few_handed x.levels x.path x.bp x.judged x.header x.members x.handed x.left c.self.invariant, omega arith)

pub returns-in-Some : goal.returns-in-Some
returns-in-Some c =
    let x = c.self.inside in
    let got : slice_get x.members x.handed ≡ Some c.in-Some.bp = ap (λ ms. slice_get ms x.handed) (sym c.as_slice.ensures) ∙ sym c.nth.ensures ∙ c.in-Some.is in
    let deep = is_deep x.judged x.bp.gang x.levels x.header c.self.invariant.asked (rw (← c.self.view_is) at c.requires) in
    let m : MemberWalk = record { n = x.handed; levels = x.levels - 1; path = c.below.result; bp = c.in-Some.bp } in
    subst (λ (w : Walking). ShowsWalk w (Member m)) c.self.view_is
    (member_shown x.claim x.levels x.path x.bp x.judged x.header x.members x.handed x.left m c.self.invariant got refl (omega arith) c.below.ensures)

pub returns-then-is_any_out : goal.returns-then-is_any_out
returns-then-is_any_out c =
    let x = c.self.inside in
    let past : slice_get x.members x.handed ≡ None = ap (λ ms. slice_get ms x.handed) (sym c.as_slice.ensures) ∙ sym c.nth.ensures ∙ c.in-None.is in
    subst (λ (w : Walking). ShowsWalk w Wait) c.self.view_is
    (wait_shown x.claim x.levels x.path x.bp x.judged x.header x.members x.handed x.left c.self.invariant (rw (← c.self.view_is) at c.requires) past (sym c.is_any_out.ensures ∙ c.if-is_any_out.true))

pub returns-else-is_any_out : goal.returns-else-is_any_out
returns-else-is_any_out c =
    let x = c.self.inside in
    let past : slice_get x.members x.handed ≡ None = ap (λ ms. slice_get ms x.handed) (sym c.as_slice.ensures) ∙ sym c.nth.ensures ∙ c.in-None.is in
    subst (λ (w : Walking). ShowsWalk w End) c.self.view_is
    (end_shown x.claim x.levels x.path x.bp x.judged x.header x.members x.handed x.left c.self.invariant (rw (← c.self.view_is) at c.requires) past (sym c.is_any_out.ensures ∙ c.if-is_any_out.false))

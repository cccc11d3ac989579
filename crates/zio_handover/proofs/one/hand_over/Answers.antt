use Rattle.std.proofs.Common.{length, sym, ap, ◌∙◌}
use Rattle.zio_handover.proofs.OneChild.{ended_is, first_added, next_of, waited_is}
use Rattle.zio_handover.proofs.one.hand_over.Goals as goal

pub woken_of-requires-clause-ended : goal.woken_of-requires-clause-ended
woken_of-requires-clause-ended g c =
    let n = next_of c.in_ok-owner.owner c.add.new.self c.in_ok-child.field-0 c.in-Some.child c.in-Some.is c.in_ok-child.ensures.added in
    ended_is c.done-ended.result _ _ _ _ _ n.kind_is (n.number ∙ ap length c.in_ok-owner.ensures.0) (n.seen ∙ first_added _ _ c.in_ok-owner.ensures.2 n.step)
    (n.latch ∙ sym c.in_ok-child.ensures.latch.1 ∙ sym c.in_ok-witness.ensures) c.done-ended.ensures.came c.done-ended.ensures.latch

pub woken_of-requires-clause-waited : goal.woken_of-requires-clause-waited
woken_of-requires-clause-waited g c =
    let n = next_of c.in_ok-owner.owner c.add.new.self c.in_ok-child.field-0 c.in-Some.child c.in-Some.is c.in_ok-child.ensures.added in
    waited_is c.wait-waited.result _ _ _ (first_added _ _ c.in_ok-owner.ensures.2 n.step) (sym c.in_ok-witness.ensures) c.wait-waited.ensures.found c.wait-waited.ensures.latch

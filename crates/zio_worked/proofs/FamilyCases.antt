use Rattle.std.proofs.Common.{refl}
use Rattle.zio_worked.proofs.Evaluation.{evaluation}
use Rattle.zio_worked.specs.Families.{WriteOverTwoWrites, PointersStandInFront, WritesNest, ChildGoesAgain, FinishedChildIsKept, NullOverBadRead, NullOverGoneRead, NullOverGoneReadGoesOn, ChildErrorBindsNothing, ZerosForNoPlace, UnwrittenChildFails, UnwrittenChildHasPointer, MustChildHoldsParent, ChildrenComeFirst, FamiliesAreApart, EachAttemptHasItsPointers}

pub write_over_two_writes : WriteOverTwoWrites
unfolding evaluation
write_over_two_writes = refl

pub pointers_stand_in_front : PointersStandInFront
unfolding evaluation
pointers_stand_in_front = refl

pub writes_nest : WritesNest
unfolding evaluation
writes_nest = refl

pub child_goes_again : ChildGoesAgain
unfolding evaluation
child_goes_again = refl

pub finished_child_is_kept : FinishedChildIsKept
unfolding evaluation
finished_child_is_kept = refl

pub null_over_bad_read : NullOverBadRead
unfolding evaluation
null_over_bad_read = refl

pub null_over_gone_read : NullOverGoneRead
unfolding evaluation
null_over_gone_read = refl

pub null_over_gone_read_goes_on : NullOverGoneReadGoesOn
unfolding evaluation
null_over_gone_read_goes_on = refl

pub child_error_binds_nothing : ChildErrorBindsNothing
unfolding evaluation
child_error_binds_nothing = refl

pub zeros_for_no_place : ZerosForNoPlace
unfolding evaluation
zeros_for_no_place = refl

pub unwritten_child_fails : UnwrittenChildFails
unfolding evaluation
unwritten_child_fails = refl

pub unwritten_child_has_pointer : UnwrittenChildHasPointer
unfolding evaluation
unwritten_child_has_pointer = refl

pub must_child_holds_parent : MustChildHoldsParent
unfolding evaluation
must_child_holds_parent = refl

pub children_come_first : ChildrenComeFirst
unfolding evaluation
children_come_first = refl

pub families_are_apart : FamiliesAreApart
unfolding evaluation
families_are_apart = refl

pub each_attempt_has_its_pointers : EachAttemptHasItsPointers
unfolding evaluation
each_attempt_has_its_pointers = refl

use Rattle.std.proofs.Common.{◌≡◌, ◌<◌, ◌∙◌, length, set, slice_get, Some, None, refl, sym, ap, subst}
use Rattle.zio_trace.specs.Tasks.{AttemptedBy}
use Rattle.zio_children.specs.RequestKids.{IsOutWith, KidsUnderWay, kid_is, numbers_of, pointers_of, state_at}
use Rattle.zio_children.specs.declared.kids.KidState.TheVariants.{Ended}
use Rattle.zio_frames.specs.Moves.{child_ended}
use Rattle.zio_frames.specs.Slots.{Heard}
use Rattle.zio_stages.specs.KidPointers.{HaveValidPointers}
use Rattle.zio_stages.specs.WrittenBlocks.{HaveAllTold}
use Rattle.zio_stages.proofs.KidPointerLemmas.{told_still, valid_then}
use Rattle.zio_stages.proofs.RequestHears.{heard_kid, kid_less, number_there, one_place, seat_is}
use Rattle.zio_stages.proofs.RequestOver.{own_same, same_marked, told_valid}
use Rattle.zio_stages.proofs.request_node.RequestNode.arrive_again.Goals as goal

pub returns-clause-heard : goal.returns-clause-heard
returns-clause-heard c = λ t st x p below one h there asked by left.
    let r = c.args.self.now in
    let place = c.place-place.result in
    let at = c.requires.out in
    let same : at.place ≡ place = one_place r.family c.args.child at.place place at.seat c.place-place.ensures in
    let out : IsOutWith c.args.pointer (state_at r.kids.kids.kids place) = subst (λ n. IsOutWith c.args.pointer (state_at r.kids.kids.kids n)) same at.state in
    let less : place < length h.kid_slots = kid_less t r st place c.args.pointer h out in
    let seat = seat_is r.family st.children c.args.child place x h.family c.place-place.ensures there in
    let number : slice_get (numbers_of r.kids.kids.kids) place ≡ Some p.request.number = number_there t r st place x p below h less seat asked in
    heard_kid t r c.hear_again.new.self c.end.new.self st c.args.child place x child_ended (Heard (AttemptedBy one)) h less c.place-place.ensures there
    (c.hear_again.ensures.after r.attempt h.forest h.kid_asked h.kid_slots p.request.number one h.kids number by left) (ap (λ (k : KidsUnderWay). k.kept) c.hear_again.ensures.kids)
    (λ told. subst (λ (y : KidsUnderWay). HaveAllTold y × (pointers_of y ≡ pointers_of r.kids.kids)) (sym c.hear_again.ensures.kids) (told_still r.kids.kids place c.args.bits None c.args.pointer told out)) c.end.ensures

pub returns-clause-kids : goal.returns-clause-kids
returns-clause-kids c = λ place seat.
    let r = c.args.self.now in
    let same : place ≡ c.place-place.result =
    one_place r.family c.args.child place c.place-place.result seat c.place-place.ensures in
    c.hear_again.ensures.kids ∙ ap (λ n. kid_is r.kids.kids n (Ended c.args.bits None c.args.pointer)) (sym same)

pub returns-clause-over : goal.returns-clause-over
returns-clause-over c = λ tops over.
    let r = c.args.self.now in
    own_same tops r.own r.family c.end.new.self
    (same_marked r.family c.end.new.self c.args.child c.place-place.result child_ended c.place-place.ensures (λ x. refl)
    c.end.ensures) over

pub returns-clause-valid : goal.returns-clause-valid
returns-clause-valid c = λ ok h.
    subst HaveValidPointers (sym c.hear_again.ensures.kids)
    (valid_then c.args.self.now.kids.kids c.place-place.result (Ended c.args.bits None c.args.pointer) h
    (told_valid c.args.self.now c.args.child c.args.pointer h ok))

pub returns-clause-left : goal.returns-clause-left
returns-clause-left c = λ place seat.
    let r = c.args.self.now in
    let same : place ≡ c.place-place.result =
    one_place r.family c.args.child place c.place-place.result seat c.place-place.ensures in
    c.hear_again.ensures.left ∙ ap (λ n. set r.kids.again n (Some c.args.whole)) (sym same)

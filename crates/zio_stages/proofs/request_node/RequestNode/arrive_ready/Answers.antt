use Rattle.std.proofs.Common.{◌≡◌, ◌<◌, ◌∙◌, length, Some, None, refl, sym, ap, subst}
use Rattle.zio_children.specs.RequestKids.{IsOutWith, KidsUnderWay, kid_is, state_at}
use Rattle.zio_children.specs.declared.kids.KidState.TheVariants.{Out, Told}
use Rattle.zio_frames.specs.Moves.{child_told}
use Rattle.zio_frames.specs.Slots.{IsOut}
use Rattle.zio_stages.specs.KidPointers.{HaveValidPointers}
use Rattle.zio_stages.proofs.KidPointerLemmas.{none_out, valid_then}
use Rattle.zio_stages.proofs.RequestHears.{heard_kid, kid_less, one_place}
use Rattle.zio_stages.proofs.RequestOver.{own_same, same_marked}
use Rattle.zio_stages.proofs.request_node.RequestNode.arrive_ready.Goals as goal

pub returns-clause-told : goal.returns-clause-told
returns-clause-told c = λ t st x h there.
    let r = c.args.self.now in
    let place = c.place-place.result in
    let same : c.requires.place ≡ place = one_place r.family c.args.child c.requires.place place c.requires.seat c.place-place.ensures in
    let out : state_at r.kids.kids.kids place ≡ Some Out = subst (λ n. state_at r.kids.kids.kids n ≡ Some Out) same c.requires.state in
    let less : place < length h.kid_slots = kid_less t r st place None h (subst (IsOutWith None) (sym out) tt) in
    heard_kid t r c.tell.new.self c.tell-2.new.self st c.args.child place x child_told (IsOut (Some c.args.pointer)) h less c.place-place.ensures there
    (c.tell.ensures.after r.attempt h.forest h.kid_asked h.kid_slots h.kids) (ap (λ (k : KidsUnderWay). k.kept) c.tell.ensures.kids)
    (λ told. absurd (none_out r.kids.kids place told out)) c.tell-2.ensures

pub returns-clause-kids : goal.returns-clause-kids
returns-clause-kids c = λ place seat.
    let r = c.args.self.now in
    let same : place ≡ c.place-place.result =
    one_place r.family c.args.child place c.place-place.result seat c.place-place.ensures in
    c.tell.ensures.kids ∙ ap (λ n. kid_is r.kids.kids n (Told c.args.pointer)) (sym same)

pub returns-clause-over : goal.returns-clause-over
returns-clause-over c = λ tops over.
    let r = c.args.self.now in
    own_same tops r.own r.family c.tell-2.new.self
    (same_marked r.family c.tell-2.new.self c.args.child c.place-place.result child_told c.place-place.ensures
    (λ x. refl) c.tell-2.ensures) over

pub returns-clause-valid : goal.returns-clause-valid
returns-clause-valid c = λ ok h.
    subst HaveValidPointers (sym c.tell.ensures.kids)
    (valid_then c.args.self.now.kids.kids c.place-place.result (Told c.args.pointer) h ok)

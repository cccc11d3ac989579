use Rattle.std.proofs.Common.{◌≡◌, ◌∙◌, ◌+◌, ◌-◌, None, Some, ap, arith, refl, slice_get, set, sym, subst}
use Rattle.std.proofs.lemmas.Option.{slice_get_within}
use Rattle.zio_frames.specs.Frames.{Child, OfOuter}
use Rattle.zio_frames.specs.Moves.{child_told}
use Rattle.zio_frames.specs.Slots.{IsOut}
use Rattle.zio_parts.specs.Parts.{PartWriting, slots_of}
use Rattle.zio_parts.specs.declared.members.Member.TheVariants.{Told}
use Rattle.zio_stages.specs.PartOwns.{ForMember, IsPartOwn, asks_in}
use Rattle.zio_stages.specs.PartWorks.{IsIoOver, IsNoLessFar}
use Rattle.zio_stages.specs.declared.family.Layer.TheVariants.{Own}
use Rattle.zio_stages.proofs.NodeIoLemmas.{same_child, seat_there}
use Rattle.zio_stages.proofs.PartFar.{far_member}
use Rattle.zio_stages.proofs.PartHears.{member_goes}
use Rattle.zio_stages.proofs.PartMembers.{io_changed, over_with}
use Rattle.zio_stages.proofs.RequestHears.{if_there}
use Rattle.zio_stages.proofs.part_work.PartWork.arrive_ready.Goals as goal

pub overflow_sub-n : goal.overflow_sub-n
overflow_sub-n c =
    let m = c.requires.member in
    let at : c.number.result ≡ c.args.front + m.number = c.number.ensures Own (c.args.front + m.number) (seat_there c.args.family.now c.args.child m.now _ m.is c.seat.ensures ∙ m.seat) in
    omega (arith, at)

pub hear_told-requires-clause-member : goal.hear_told-requires-clause-member
hear_told-requires-clause-member c =
    let x = c.args.self.now.own.part in
    let m = c.requires.member in
    let at : c.number.result ≡ c.args.front + m.number = c.number.ensures Own (c.args.front + m.number) (seat_there c.args.family.now c.args.child m.now _ m.is c.seat.ensures ∙ m.seat) in
    let k : c.number.result - c.args.front ≡ m.number = omega (arith, at) in
    subst (λ i. slice_get (asks_in x) i ≡ Some ForMember) (sym k) m.member

pub hear_told-requires-clause-out : goal.hear_told-requires-clause-out
hear_told-requires-clause-out c =
    let x = c.args.self.now.own.part in
    let m = c.requires.member in
    let at : c.number.result ≡ c.args.front + m.number = c.number.ensures Own (c.args.front + m.number) (seat_there c.args.family.now c.args.child m.now _ m.is c.seat.ensures ∙ m.seat) in
    let k : c.number.result - c.args.front ≡ m.number = omega (arith, at) in
    subst (λ i. slice_get (slots_of x) i ≡ Some (IsOut None)) (sym k) m.out

pub tell-requires : goal.tell-requires
tell-requires c =
    let m = c.requires.member in
    slice_get_within c.args.family.now c.args.child m.now m.is

pub returns-clause-told : goal.returns-clause-told
returns-clause-told c = λ t f o st d front h there.
    let w = c.args.self.now in
    let x = c.args.self.now.own.part in
    let m = c.requires.member in
    let at : c.number.result ≡ c.args.front + m.number = c.number.ensures Own (c.args.front + m.number) (seat_there c.args.family.now c.args.child m.now _ m.is c.seat.ensures ∙ m.seat) in
    let k : c.number.result - c.args.front ≡ m.number = omega (arith, at) in
    let same : m.now ≡ d = same_child c.args.family.now st.children c.args.child m.now d h.children m.is there in
    let grown = if_there (slice_get c.args.family.now c.args.child) _ m.now c.tell.ensures m.is in
    member_goes t w _ c.args.family.now c.tell.new.self f o st c.args.child m.number d child_told (IsOut (Some c.args.pointer)) h
    (sym (ap (λ (y : Child). y.seat) same) ∙ m.seat ∙ ap (λ i. OfOuter (i + m.number)) (sym front))
    (subst (λ i. IsPartOwn t c.hear_told.new.self o h.asked (set h.slots i (IsOut (Some c.args.pointer)))) k (c.hear_told.ensures.told t o h.asked h.slots h.work.own))
    (ap (λ (y : PartWriting). y.own) c.hear_told.ensures.exact) refl refl
    (grown ∙ ap (λ (y : Child). set c.args.family.now c.args.child (child_told y)) same)

pub returns-clause-over : goal.returns-clause-over
returns-clause-over c = λ tops h.
    let w = c.args.self.now in
    let x = w.own.part in
    let m = c.requires.member in
    let grown = if_there (slice_get c.args.family.now c.args.child) _ m.now c.tell.ensures m.is in
    over_with tops w _ c.args.family.now c.tell.new.self h (ap (λ (y : PartWriting). y.placing) c.hear_told.ensures.exact) (ap (λ (y : PartWriting). y.own) c.hear_told.ensures.exact)
    (ap (λ (y : PartWriting). y.size) c.hear_told.ensures.exact) refl refl
    (subst (IsIoOver tops x w.io) (sym grown) (io_changed tops x w.io c.args.family.now c.args.child m.now (child_told m.now) m.is refl (λ g. m.goes) h.io))

pub returns-clause-own : goal.returns-clause-own
returns-clause-own c = ap (λ (y : PartWriting). y.own) c.hear_told.ensures.exact

pub returns-clause-placing : goal.returns-clause-placing
returns-clause-placing c = ap (λ (y : PartWriting). y.placing) c.hear_told.ensures.exact

pub returns-clause-far : goal.returns-clause-far
returns-clause-far c =
    let x = c.args.self.now.own.part in
    subst (IsNoLessFar x) (sym c.hear_told.ensures.exact)
    (far_member x (c.number.result - c.args.front - 2) (Told c.args.pointer) refl)

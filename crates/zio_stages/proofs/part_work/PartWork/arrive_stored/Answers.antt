use Rattle.std.proofs.Common.{◌≡◌, ◌∙◌, ◌+◌, ◌-◌, None, Some, ap, arith, refl, slice_get, set, sym, subst}
use Rattle.std.proofs.lemmas.Option.{slice_get_within}
use Rattle.zio_frames.specs.Frames.{Child, OfOuter}
use Rattle.zio_frames.specs.Moves.{child_ended}
use Rattle.zio_frames.specs.Slots.{IsOut, Heard}
use Rattle.zio_parts.specs.Parts.{PartWriting, slots_of}
use Rattle.zio_parts.specs.declared.members.Member.TheVariants.{Ended as MemberEnded}
use Rattle.zio_exchange.specs.Outcomes.{stored_as}
use Rattle.zio_stages.specs.PartOwns.{ForMember, IsOutAs, IsPartOwn, asks_in}
use Rattle.zio_stages.specs.PartWorks.{IsIoOver, IsNoLessFar}
use Rattle.zio_stages.specs.declared.family.Layer.TheVariants.{Own}
use Rattle.zio_stages.proofs.NodeIoLemmas.{same_child, seat_there}
use Rattle.zio_stages.proofs.PartFar.{far_member}
use Rattle.zio_stages.proofs.PartHears.{member_goes}
use Rattle.zio_stages.proofs.PartMembers.{io_changed, over_with}
use Rattle.zio_stages.proofs.RequestHears.{if_there}
use Rattle.zio_trace.specs.Tasks.{StoredAs}
use Rattle.zio_stages.proofs.PartSeats.{out_as}
use Rattle.zio_stages.proofs.part_work.PartWork.arrive_stored.Goals as goal

pub overflow_sub-n : goal.overflow_sub-n
overflow_sub-n c =
    let m = c.requires.member.1 in
    let at : c.number.result ≡ c.args.front + m.number = c.number.ensures Own (c.args.front + m.number) (seat_there c.args.family.now c.args.child m.now _ m.is c.seat.ensures ∙ m.seat) in
    omega (arith, at)

pub hear_member-requires-clause-member : goal.hear_member-requires-clause-member
hear_member-requires-clause-member c =
    let x = c.args.self.now.own.part in
    let m = c.requires.member.1 in
    let at : c.number.result ≡ c.args.front + m.number = c.number.ensures Own (c.args.front + m.number) (seat_there c.args.family.now c.args.child m.now _ m.is c.seat.ensures ∙ m.seat) in
    let k : c.number.result - c.args.front ≡ m.number = omega (arith, at) in
    subst (λ i. slice_get (asks_in x) i ≡ Some ForMember) (sym k) m.member

pub hear_member-requires-clause-out : goal.hear_member-requires-clause-out
hear_member-requires-clause-out c =
    let x = c.args.self.now.own.part in
    let m = c.requires.member.1 in
    let at : c.number.result ≡ c.args.front + m.number = c.number.ensures Own (c.args.front + m.number) (seat_there c.args.family.now c.args.child m.now _ m.is c.seat.ensures ∙ m.seat) in
    let k : c.number.result - c.args.front ≡ m.number = omega (arith, at) in
    subst (λ i. IsOutAs c.args.stored.pointer (slice_get (slots_of x) i)) (sym k) (out_as c.args.stored.pointer c.requires.member.0 (slice_get (slots_of x) m.number) m.out c.requires.member.2)

pub hear_member-requires-clause-valid : goal.hear_member-requires-clause-valid
hear_member-requires-clause-valid c = λ none.
    let x = c.args.self.now.own.part in
    let m = c.requires.member.1 in
    let at : c.number.result ≡ c.args.front + m.number = c.number.ensures Own (c.args.front + m.number) (seat_there c.args.family.now c.args.child m.now _ m.is c.seat.ensures ∙ m.seat) in
    let k : c.number.result - c.args.front ≡ m.number = omega (arith, at) in
    let there : slice_get (slots_of x) m.number ≡ Some (IsOut None) = ap (slice_get (slots_of x)) (sym k) ∙ none in
    let both : Some (IsOut c.requires.member.0) ≡ Some (IsOut None) = sym m.out ∙ there in
    c.requires.member.3 (cc)

pub end-requires : goal.end-requires
end-requires c =
    let m = c.requires.member.1 in
    slice_get_within c.args.family.now c.args.child m.now m.is

pub returns-clause-heard : goal.returns-clause-heard
returns-clause-heard c = λ t f o st d front h there.
    let w = c.args.self.now in
    let x = c.args.self.now.own.part in
    let m = c.requires.member.1 in
    let at : c.number.result ≡ c.args.front + m.number = c.number.ensures Own (c.args.front + m.number) (seat_there c.args.family.now c.args.child m.now _ m.is c.seat.ensures ∙ m.seat) in
    let k : c.number.result - c.args.front ≡ m.number = omega (arith, at) in
    let same : m.now ≡ d = same_child c.args.family.now st.children c.args.child m.now d h.children m.is there in
    let grown = if_there (slice_get c.args.family.now c.args.child) _ m.now c.end.ensures m.is in
    member_goes t w _ c.args.family.now c.end.new.self f o st c.args.child m.number d child_ended (Heard (StoredAs (stored_as c.args.stored))) h
    (sym (ap (λ (y : Child). y.seat) same) ∙ m.seat ∙ ap (λ i. OfOuter (i + m.number)) (sym front))
    (subst (λ i. IsPartOwn t c.hear_member.new.self o h.asked (set h.slots i (Heard (StoredAs (stored_as c.args.stored))))) k (c.hear_member.ensures.heard t o h.asked h.slots h.work.own))
    (ap (λ (y : PartWriting). y.own) c.hear_member.ensures.exact) refl refl
    (grown ∙ ap (λ (y : Child). set c.args.family.now c.args.child (child_ended y)) same)

pub returns-clause-over : goal.returns-clause-over
returns-clause-over c = λ tops h.
    let w = c.args.self.now in
    let x = w.own.part in
    let m = c.requires.member.1 in
    let grown = if_there (slice_get c.args.family.now c.args.child) _ m.now c.end.ensures m.is in
    over_with tops w _ c.args.family.now c.end.new.self h (ap (λ (y : PartWriting). y.placing) c.hear_member.ensures.exact) (ap (λ (y : PartWriting). y.own) c.hear_member.ensures.exact)
    (ap (λ (y : PartWriting). y.size) c.hear_member.ensures.exact) refl refl
    (subst (IsIoOver tops x w.io) (sym grown) (io_changed tops x w.io c.args.family.now c.args.child m.now (child_ended m.now) m.is refl (λ g. m.goes) h.io))

pub returns-clause-own : goal.returns-clause-own
returns-clause-own c = ap (λ (y : PartWriting). y.own) c.hear_member.ensures.exact

pub returns-clause-placing : goal.returns-clause-placing
returns-clause-placing c = ap (λ (y : PartWriting). y.placing) c.hear_member.ensures.exact

pub returns-clause-far : goal.returns-clause-far
returns-clause-far c =
    let x = c.args.self.now.own.part in
    subst (IsNoLessFar x) (sym c.hear_member.ensures.exact)
    (far_member x (c.number.result - c.args.front - 2)
    (MemberEnded c.args.stored.error c.args.stored.pointer c.args.stored.heads) refl)

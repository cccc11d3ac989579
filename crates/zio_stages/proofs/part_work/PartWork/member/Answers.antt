use Rattle.std.proofs.Common.{◌≡◌, ◌∙◌, ◌+◌, ◌-◌, ◌++◌, ◌∷◌, [], None, ap, drop, length, refl, sym, take}
use Rattle.zio_types.specs.declared.request.ChildKind.TheVariants.{Gang}
use Rattle.zio_frames.specs.Frames.{OfOuter, Seat as SeatOf}
use Rattle.zio_parts.specs.Parts.{PartWriting, member_bytes}
use Rattle.zio_parts.specs.PartWrites.{handed_by, is_due, step_of}
use Rattle.zio_parts.specs.declared.parts.OwnWrite.TheVariants.{Due}
use Rattle.zio_parts.specs.declared.parts.PartStep.TheVariants.{Member}
use Rattle.zio_stages.specs.NodeChildren.{new_child, seat_of}
use Rattle.zio_stages.specs.PartOwns.{member_of}
use Rattle.zio_stages.proofs.PartIos.{no_io}
use Rattle.zio_stages.specs.declared.part.PartOwn.{PartOwn}
use Rattle.zio_stages.proofs.PartMembers.{hands_member, member_number, member_only, member_under, over_more}
use Rattle.zio_stages.proofs.part_work.PartWork.member.Goals as goal

pub returns-clause-hands : goal.returns-clause-hands
returns-clause-hands c = λ t f o st is h.
    let w = c.args.self.now in
    let x = w.own.part in
    let n = c.in-Member.n in
    let family = c.args.family.now in
    let begun = c.hand_out_member-own.result in
    let due : x.own ≡ Due = c.next.ensures.due n c.in-Member.is in
    let step : Member n ≡ step_of x = sym c.in-Member.is ∙ c.next.ensures.shows.is in
    let held : o.bytes ≡ w.bytes = h.work.bytes (ap is_due due) in
    let alone : w.io ≡ None = no_io c.requires.over.0 x w.io family due c.requires.over.1.io in
    let hm = c.hand_out_member-own.ensures.handed t o h.asked h.slots h.work.own (held ∙ sym (c.as_slice.ensures ∙ c.part.ensures.same)) in
    let many : length h.slots ≡ 2 + n = ap length h.work.own.shown ∙ member_number x n step due in
    let grown : c.add.new.self ≡ family ++ new_child (OfOuter (c.args.front + 2 + n)) Gang ∷ [] = c.in_ok-add.ensures.ok in
    let now = c.hand_out_member-own.ensures.exact ∙ ap (λ s. handed_by s x) (sym step) in
    let mine : member_bytes o.bytes n ≡ c.in_ok-bytes.bytes = c.member_range-range.ensures.bytes o.bytes (sym h.work.own.of_bytes.size)
    ∙ ap (λ bs. take (c.member_range-range.result.end - c.member_range-range.result.start) (drop c.member_range-range.result.start bs)) held ∙ sym c.in_ok-bytes.ensures.part in
    hands_member t w _ family c.add.new.self f o c.args.front n st c.of.result begun is h alone hm many grown c.part.ensures.same refl (ap (λ (y : PartWriting). y.own) now)
    (c.of.ensures.fresh t (member_of o begun.part.path (member_bytes o.bytes n)) hm.member mine)

pub returns-clause-over : goal.returns-clause-over
returns-clause-over c = λ tops h.
    let w = c.args.self.now in
    let x = w.own.part in
    let n = c.in-Member.n in
    let family = c.args.family.now in
    let step : Member n ≡ step_of x = sym c.in-Member.is ∙ c.next.ensures.shows.is in
    let grown : c.add.new.self ≡ family ++ new_child (OfOuter (c.args.front + 2 + n)) Gang ∷ [] = c.in_ok-add.ensures.ok in
    let now = c.hand_out_member-own.ensures.exact ∙ ap (λ s. handed_by s x) (sym step) in
    over_more tops w _ family c.add.new.self (c.args.front + 2 + n) h (ap (λ (y : PartWriting). y.placing) now) (ap (λ (y : PartWriting). y.own) now) (ap (λ (y : PartWriting). y.size) now) c.part.ensures.same refl grown

pub returns-clause-members : goal.returns-clause-members
returns-clause-members c =
    let x = c.args.self.now.own.part in
    let step : Member c.in-Member.n ≡ step_of x = sym c.in-Member.is ∙ c.next.ensures.shows.is in
    ap (λ (y : PartWriting). y.members) (c.hand_out_member-own.ensures.exact ∙ ap (λ s. handed_by s x) (sym step))

pub returns-clause-path : goal.returns-clause-path
returns-clause-path c =
    let x = c.args.self.now.own.part in
    let step : Member c.in-Member.n ≡ step_of x = sym c.in-Member.is ∙ c.next.ensures.shows.is in
    ap (λ (y : PartWriting). y.path) (c.hand_out_member-own.ensures.exact ∙ ap (λ s. handed_by s x) (sym step))

pub returns-clause-next : goal.returns-clause-next
returns-clause-next c =
    let x = c.args.self.now.own.part in
    let n = c.in-Member.n in
    let step : Member n ≡ step_of x = sym c.in-Member.is ∙ c.next.ensures.shows.is in
    member_under x c.hand_out_member-own.new.self.part n c.of.result step (returns-clause-members c) (returns-clause-path c)
    (ap (λ (w : PartOwn). w.part.path) c.of.ensures.own ∙ c.hand_out_member-own.ensures.path) c.hand_out_member-own.ensures.deep
    (ap (λ (w : PartOwn). w.part.members) c.of.ensures.own ∙ c.hand_out_member-own.ensures.begun) c.of.ensures.none

pub unreachable-requires : goal.unreachable-requires
unreachable-requires c = member_only (step_of c.args.self.now.own.part) c.requires.due (λ n e. c.in_default.not-Member n (c.next.ensures.shows.is ∙ e))

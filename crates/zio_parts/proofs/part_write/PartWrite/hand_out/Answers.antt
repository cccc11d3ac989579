use Rattle.std.proofs.Common.{◌≡◌, ◌≤◌, ◌++◌, ◌∷◌, [], ◌∙◌, sym, subst, ap, arith, take}
use Rattle.zio_types.specs.Filled.{length-take-filled}
use Rattle.zio_cksum.proofs.SplitLemmas.{few_law}
use Rattle.zio_parts.specs.Parts.{PartWriting, left_of_part, member_count, slots_of}
use Rattle.zio_parts.specs.PartWrites.{IsPartWriting, step_of, with_members, with_own}
use Rattle.zio_parts.specs.declared.members.Member.TheVariants.{Out}
use Rattle.zio_parts.specs.declared.parts.OwnWrite.TheVariants.{Out as OwnOut}
use Rattle.zio_parts.specs.declared.parts.PartStep.TheVariants.{Member}
use Rattle.zio_parts.proofs.MemberLemmas.{filled_next}
use Rattle.zio_parts.proofs.PartLemmas.{IsMemberHanded, IsOwn, handed_left, member_handed, own_handed}
use Rattle.zio_parts.proofs.part_write.PartWrite.hand_out.Goals as goal

pub invariant_of-self : goal.invariant_of-self
invariant_of-self c =
    let x = c.self.inside in
    let f = c.self.invariant.filled in
    let part : PartWriting = record { write = x.write; path = x.path; size = x.size; words = x.words; placing = x.placing; members = take x.handed x.members; own = x.own } in
    let step : Member c.in-Member.field-0 ≡ step_of part = sym c.in-Member.is ∙ c.next.ensures.step ∙ ap step_of (sym c.self.view_is) in
    let h : IsMemberHanded part = member_handed part c.in-Member.field-0 c.self.invariant.is step in
    let less = h.less in
    let few : member_count part ≤ 3 = few_law x.size in
    let more = filled_next Out 3 x.handed x.members f (omega (arith, less, few, length-take-filled Out 3 x.handed x.members f)) in
    record {
      filled = more.filled;
      is = subst (λ ms. IsPartWriting (record { write = x.write; path = x.path; size = x.size; words = x.words; placing = x.placing; members = ms; own = x.own })) (sym more.front) h.is;
    }

pub returns-in-Member-clause-handed : goal.returns-in-Member-clause-handed
returns-in-Member-clause-handed c =
    let x = c.self.inside in
    let f = c.self.invariant.filled in
    let part : PartWriting = record { write = x.write; path = x.path; size = x.size; words = x.words; placing = x.placing; members = take x.handed x.members; own = x.own } in
    let step : Member c.in-Member.field-0 ≡ step_of part = sym c.in-Member.is ∙ c.next.ensures.step ∙ ap step_of (sym c.self.view_is) in
    let h : IsMemberHanded part = member_handed part c.in-Member.field-0 c.self.invariant.is step in
    let less = h.less in
    let few : member_count part ≤ 3 = few_law x.size in
    let more = filled_next Out 3 x.handed x.members f (omega (arith, less, few, length-take-filled Out 3 x.handed x.members f)) in
    let now = member_handed c.args.self.now c.in-Member.field-0 (subst IsPartWriting c.self.view_is c.self.invariant.is) (sym c.in-Member.is ∙ c.next.ensures.step) in
    ap (λ ms. with_members part ms) more.front
    ∙ ap (λ y. with_members y (y.members ++ Out ∷ [])) c.self.view_is
    ∙ sym now.handed

pub returns-in-Member-clause-slots : goal.returns-in-Member-clause-slots
returns-in-Member-clause-slots c =
    let now = member_handed c.args.self.now c.in-Member.field-0 (subst IsPartWriting c.self.view_is c.self.invariant.is) (sym c.in-Member.is ∙ c.next.ensures.step) in
    ap slots_of (returns-in-Member-clause-handed c ∙ now.handed) ∙ now.slots

pub returns-in-Member-clause-left : goal.returns-in-Member-clause-left
returns-in-Member-clause-left c = λ s member bytes.
    let now = member_handed c.args.self.now c.in-Member.field-0 (subst IsPartWriting c.self.view_is c.self.invariant.is) (sym c.in-Member.is ∙ c.next.ensures.step) in
    ap (left_of_part s member bytes) (returns-in-Member-clause-handed c ∙ now.handed)
    ∙ handed_left s member bytes c.args.self.now (slots_of (with_members c.args.self.now (c.args.self.now.members ++ Out ∷ []))) now.slots

pub returns-in-WriteHeader-clause-left : goal.returns-in-WriteHeader-clause-left
returns-in-WriteHeader-clause-left c = λ s member bytes.
    let now = own_handed c.args.self.now (subst IsPartWriting c.self.view_is c.self.invariant.is) (subst IsOwn (sym c.in-WriteHeader.is ∙ c.next.ensures.step) tt) in
    ap (λ y. left_of_part s member bytes (with_own y OwnOut)) c.self.view_is
    ∙ handed_left s member bytes c.args.self.now (slots_of (with_own c.args.self.now OwnOut)) now.slots

use Rattle.std.proofs.Common.{◌∙◌, refl, sym, ap, subst, arith, slice_get, take}
use Rattle.zio_types.specs.Filled.{IsFilled, length-take-filled}
use Rattle.zio_parts.specs.Parts.{IsOutWith, PartWriting, left_of_part, slots_of}
use Rattle.zio_parts.specs.PartWrites.{IsPartWriting, member_heard}
use Rattle.zio_parts.specs.declared.members.Member.TheVariants.{Out, Ended}
use Rattle.zio_parts.proofs.AnsweredLemmas.{take_set_in}
use Rattle.zio_parts.proofs.MemberLemmas.{filled_set, member_is, spelled_there}
use Rattle.zio_parts.proofs.PartLemmas.{out_within, ended_left, ended_slots}
use Rattle.zio_parts.proofs.part_write.PartWrite.hear_member.Goals as goal

pub put-requires : goal.put-requires
put-requires c =
    let x = c.self.inside in
    let f = c.self.invariant.filled in
    let within = out_within (take x.handed x.members) c.args.n c.args.pointer (rw (← c.self.view_is) at c.requires.out) in
    omega (arith, within, f.fits, length-take-filled Out 3 x.handed x.members f)

pub invariant_of-self : goal.invariant_of-self
invariant_of-self c =
    let x = c.self.inside in
    let f = c.self.invariant.filled in
    let out : IsOutWith c.args.pointer (slice_get (take x.handed x.members) c.args.n) = rw (← c.self.view_is) at c.requires.out in
    let within = out_within (take x.handed x.members) c.args.n c.args.pointer out in
    let front = ap (take x.handed) c.put.ensures ∙ take_set_in x.handed x.members c.args.n (Ended c.args.error c.args.pointer c.args.heads) in
    record {
      filled = subst (IsFilled Out 3 x.handed) (sym c.put.ensures)
          (filled_set Out 3 x.handed x.members c.args.n (Ended c.args.error c.args.pointer c.args.heads) f (omega (arith, within, length-take-filled Out 3 x.handed x.members f)));
      is = subst (λ ms. IsPartWriting (record { write = x.write; path = x.path; size = x.size; words = x.words; placing = x.placing; members = ms; own = x.own })) (sym front)
          (member_is (record { write = x.write; path = x.path; size = x.size; words = x.words; placing = x.placing; members = take x.handed x.members; own = x.own })
          c.args.n c.args.pointer (Ended c.args.error c.args.pointer c.args.heads) c.self.invariant.is out refl
          (spelled_there (take x.handed x.members) c.args.n c.args.pointer c.self.invariant.is.spelled out (rw (← c.self.view_is) at c.requires.valid)));
    }

pub returns-clause-heard : goal.returns-clause-heard
returns-clause-heard c =
    let x = c.self.inside in
    ap (λ ms. let y : PartWriting = record { write = x.write; path = x.path; size = x.size; words = x.words; placing = x.placing; members = ms; own = x.own } in y)
    (ap (take x.handed) c.put.ensures ∙ take_set_in x.handed x.members c.args.n (Ended c.args.error c.args.pointer c.args.heads))
    ∙ ap (λ y. member_heard y c.args.n c.args.error c.args.pointer c.args.heads) c.self.view_is

pub returns-clause-slots : goal.returns-clause-slots
returns-clause-slots c = ap slots_of (returns-clause-heard c) ∙ ended_slots c.args.self.now c.args.n c.args.error c.args.pointer c.args.heads (subst IsPartWriting c.self.view_is c.self.invariant.is) c.requires.out

pub returns-clause-left : goal.returns-clause-left
returns-clause-left c = λ s member bytes.
    ap (left_of_part s member bytes) (returns-clause-heard c) ∙ ended_left s member bytes c.args.self.now c.args.n c.args.error c.args.pointer c.args.heads (subst IsPartWriting c.self.view_is c.self.invariant.is) c.requires.out

use Rattle.std.proofs.Common.{◌≡◌, ◌∙◌, Some, sym, subst, ap, take, true}
use Rattle.zio_trace.specs.Underway.{early}
use Rattle.zio_parts.specs.Parts.{IsOfBytes, PartWriting, left_of_part, pointer_over}
use Rattle.zio_parts.specs.PartWrites.{EndsAlways, IsGang, IsPartWriting}
use Rattle.zio_parts.specs.declared.parts.Placing.TheVariants.{Gang}
use Rattle.zio_parts.proofs.GangLemmas.{gang_pointer}
use Rattle.zio_parts.proofs.part_write.PartWrite.pointer.Goals as goal

pub returns-in-Gang-clause-early : goal.returns-in-Gang-clause-early
returns-in-Gang-clause-early c = λ ready s member bytes of.
    let x = c.self.inside in
    let places = c.in-Gang.places in
    let gang : PartWriting = record { write = x.write; path = x.path; size = x.size; words = x.words; placing = Gang places; members = take x.handed x.members; own = x.own } in
    let placed = ap (λ p. let y : PartWriting = record { write = x.write; path = x.path; size = x.size; words = x.words; placing = p; members = take x.handed x.members; own = x.own } in y) (sym c.in-Gang.is) in
    let same : gang ≡ c.args.self.now = placed ∙ c.self.view_is in
    let is : IsGang gang places = (subst IsPartWriting (sym placed) c.self.invariant.is).placed in
    let ends = gang_pointer s member bytes x.write x.path x.size x.words places (take x.handed x.members) x.own is (subst (λ y. IsOfBytes y bytes) (sym same) of) in
    let bp : c.pointer_over-in-Gang.result ≡ pointer_over gang true places = c.pointer_over-in-Gang.ensures ∙ ap (pointer_over gang true) c.as_slice-in-Gang.ensures in
    subst (λ b. EndsAlways (λ v. early v ≡ Some b) (left_of_part s member bytes c.args.self.now)) (sym bp)
    (subst (λ y. EndsAlways (λ v. early v ≡ Some (pointer_over gang true places)) (left_of_part s member bytes y)) same ends)

use Rattle.std.proofs.Common.{◌≡◌, ◌∷◌, ◌∙◌, sym, ap, take}
use Rattle.std.specs.List.{flat_map}
use Rattle.zio_gang.specs.declared.tree.Head.{Head}
use Rattle.zio_parts.specs.Parts.{PartWriting, header_by, heads_in, places_at, stored_by}
use Rattle.zio_parts.specs.declared.parts.Placing.TheVariants.{Gang}
use Rattle.zio_parts.proofs.MemberLemmas.{filled_heads}
use Rattle.zio_parts.proofs.part_write.PartWrite.into_stored.Goals as goal

pub returns-in-Some-clause-heads : goal.returns-in-Some-clause-heads
returns-in-Some-clause-heads c =
    let x = c.self.inside in
    let gang : PartWriting = record { write = x.write; path = x.path; size = x.size; words = x.words; placing = Gang c.in-Gang.field-0; members = take x.handed x.members; own = x.own } in
    let placed = ap (λ p. let y : PartWriting = record { write = x.write; path = x.path; size = x.size; words = x.words; placing = p; members = take x.handed x.members; own = x.own } in y) (sym c.in-Gang.is) in
    let same : gang ≡ c.args.self = placed ∙ c.self.view_is in
    let bytes = c.header-bytes.ensures ∙ ap (λ y. header_by y (places_at y.placing)) (sym same) in
    c.from_vec.ensures
    ∙ c.heads_over-heads.ensures
    ∙ ap (λ b. let h : Head = record { path = x.path; bytes = b } in h ∷ flat_map heads_in x.members) bytes
    ∙ ap (λ hs. let h : Head = record { path = x.path; bytes = header_by gang c.in-Gang.field-0 } in h ∷ hs) (filled_heads x.handed x.members c.self.invariant.filled)
    ∙ ap (λ y. (stored_by y).heads) same

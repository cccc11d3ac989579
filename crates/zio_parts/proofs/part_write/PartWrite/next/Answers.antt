use Rattle.std.proofs.Common.{◌≡◌, ◌∙◌, sym, subst, ap, take}
use Rattle.zio_parts.specs.Parts.{IsOfBytes, PartWriting}
use Rattle.zio_parts.specs.PartWrites.{IsGang, IsLast, IsPartWriting, ShowsPart, gang_step_of, is_due, step_at}
use Rattle.zio_parts.specs.declared.parts.Placing.TheVariants.{Gang}
use Rattle.zio_parts.proofs.GangLemmas.{gang_shown}
use Rattle.zio_parts.proofs.PartLemmas.{gang_due, gang_last}
use Rattle.zio_parts.proofs.part_write.PartWrite.next.Goals as goal

pub returns-in-Gang-clause-shows : goal.returns-in-Gang-clause-shows
returns-in-Gang-clause-shows c = λ s member bytes of.
    let x = c.self.inside in
    let gang : PartWriting = record { write = x.write; path = x.path; size = x.size; words = x.words; placing = Gang c.in-Gang.field-0; members = take x.handed x.members; own = x.own } in
    let placed = ap (λ p. let y : PartWriting = record { write = x.write; path = x.path; size = x.size; words = x.words; placing = p; members = take x.handed x.members; own = x.own } in y) (sym c.in-Gang.is) in
    let same : gang ≡ c.args.self.now = placed ∙ c.self.view_is in
    let is : IsGang gang c.in-Gang.field-0 = (subst IsPartWriting (sym placed) c.self.invariant.is).placed in
    let shown = gang_shown s member bytes x.write x.path x.size x.words c.in-Gang.field-0 (take x.handed x.members) x.own is (subst (λ y. IsOfBytes y bytes) (sym same) of) in
    let step : c.gang_step.result ≡ step_at (Gang c.in-Gang.field-0) gang =
    c.gang_step.ensures ∙ ap (λ n. gang_step_of n (take x.handed x.members) x.own) c.member_count.ensures in
    subst (ShowsPart s member bytes c.args.self.now) (sym step) (subst (λ y. ShowsPart s member bytes y (step_at (Gang c.in-Gang.field-0) gang)) same shown)

pub returns-in-Gang-clause-due : goal.returns-in-Gang-clause-due
returns-in-Gang-clause-due c = λ n e.
    let x = c.self.inside in
    let gang : PartWriting = record { write = x.write; path = x.path; size = x.size; words = x.words; placing = Gang c.in-Gang.field-0; members = take x.handed x.members; own = x.own } in
    let placed = ap (λ p. let y : PartWriting = record { write = x.write; path = x.path; size = x.size; words = x.words; placing = p; members = take x.handed x.members; own = x.own } in y) (sym c.in-Gang.is) in
    let same : gang ≡ c.args.self.now = placed ∙ c.self.view_is in
    let is : IsGang gang c.in-Gang.field-0 = (subst IsPartWriting (sym placed) c.self.invariant.is).placed in
    let step : c.gang_step.result ≡ step_at (Gang c.in-Gang.field-0) gang =
    c.gang_step.ensures ∙ ap (λ n. gang_step_of n (take x.handed x.members) x.own) c.member_count.ensures in
    ap (λ (y : PartWriting). y.own) (sym same) ∙ gang_due gang c.in-Gang.field-0 n is (sym e ∙ step)

pub returns-in-Gang-clause-written : goal.returns-in-Gang-clause-written
returns-in-Gang-clause-written c = λ due.
    let x = c.self.inside in
    let gang : PartWriting = record { write = x.write; path = x.path; size = x.size; words = x.words; placing = Gang c.in-Gang.field-0; members = take x.handed x.members; own = x.own } in
    let placed = ap (λ p. let y : PartWriting = record { write = x.write; path = x.path; size = x.size; words = x.words; placing = p; members = take x.handed x.members; own = x.own } in y) (sym c.in-Gang.is) in
    let same : gang ≡ c.args.self.now = placed ∙ c.self.view_is in
    let is : IsGang gang c.in-Gang.field-0 = (subst IsPartWriting (sym placed) c.self.invariant.is).placed in
    let step : c.gang_step.result ≡ step_at (Gang c.in-Gang.field-0) gang =
    c.gang_step.ensures ∙ ap (λ n. gang_step_of n (take x.handed x.members) x.own) c.member_count.ensures in
    subst IsLast (sym step) (gang_last gang c.in-Gang.field-0 is (ap (λ (y : PartWriting). is_due y.own) same ∙ due))

use Rattle.std.proofs.Common.{length, ap, ◌∙◌, sym, subst}
use mathlib.Core.Option.{some-injective}
use Rattle.zio_book.specs.History.{Leads, AllFollow, once_below}
use Rattle.zio_book.specs.Books.{StandsAt, first_state}
use Rattle.zio_book.proofs.Ends.{ended, same_kept}
use Rattle.zio_book.proofs.book.Book.end.Goals as goal

pub unreachable-requires : goal.unreachable-requires
unreachable-requires g c =
    let e = ended g.H.Held.gives c.args.self c.args.all.id c.args.all.me.0 _ _ (ap (λ v. v.passes) c.requires.view) (ap (λ v. v.inside) c.requires.view) c.close_with-closed.ensures.values.2 in
    c.in_default.not-Some e.kept (some-injective _ _ (sym c.take-slot.ensures.value ∙ e.slot))

pub returns-clause-leads : goal.returns-clause-leads
returns-clause-leads g c =
    let e = ended g.H.Held.gives c.args.self c.args.all.id c.args.all.me.0 _ _ (ap (λ v. v.passes) c.requires.view) (ap (λ v. v.inside) c.requires.view) c.close_with-closed.ensures.values.2 in
    let k = same_kept e.kept c.in-Some.field-0 (some-injective _ _ (sym e.slot ∙ c.take-slot.ensures.value) ∙ c.in-Some.is) in
    subst (λ l. Leads g.H.Held.gives (first_state c.args.self) l c.in-Some.field-0.held) (sym c.from_vec.ensures) (subst (λ y. Leads g.H.Held.gives (first_state c.args.self) y.notes.items y.held) k e.leads)

pub returns-clause-acts : goal.returns-clause-acts
returns-clause-acts g c =
    let e = ended g.H.Held.gives c.args.self c.args.all.id c.args.all.me.0 _ _ (ap (λ v. v.passes) c.requires.view) (ap (λ v. v.inside) c.requires.view) c.close_with-closed.ensures.values.2 in
    let k = same_kept e.kept c.in-Some.field-0 (some-injective _ _ (sym e.slot ∙ c.take-slot.ensures.value) ∙ c.in-Some.is) in
    let log = ap (λ y. y.notes.items) k ∙ sym c.from_vec.ensures in
    ((λ n. e.once n ∙ ap (λ l. once_below n (length l)) log), subst (λ l. StandsAt l c.args.all.me.0.acts) log e.acts)

pub returns-clause-claims : goal.returns-clause-claims
returns-clause-claims g c =
    let e = ended g.H.Held.gives c.args.self c.args.all.id c.args.all.me.0 _ _ (ap (λ v. v.passes) c.requires.view) (ap (λ v. v.inside) c.requires.view) c.close_with-closed.ensures.values.2 in
    let k = same_kept e.kept c.in-Some.field-0 (some-injective _ _ (sym e.slot ∙ c.take-slot.ensures.value) ∙ c.in-Some.is) in
    let log = ap (λ y. y.notes.items) k ∙ sym c.from_vec.ensures in
    subst (λ l. AllFollow l c.args.all.me.0.claims) log e.claims

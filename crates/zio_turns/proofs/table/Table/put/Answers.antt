use Rattle.std.proofs.Common.{arith, ◌≡◌, ◌∷◌, [], ◌++◌, length, Some, ap, ◌∙◌, length-set}
use Rattle.std.proofs.lemmas.List.{with_items_is}
use Rattle.zio_turns.proofs.TableLemmas.{kept_at, kept_length, kept_put, kept_sum, same_held, standing_few, stands_put}
use Rattle.zio_turns.proofs.table.Table.put.Goals as goal

pub raise-requires-clause-place : goal.raise-requires-clause-place
raise-requires-clause-place c =
    let used : c.self.inside.used ≡ c.args.self.now.used = ap (λ h. h.used) c.self.view_is in
    let size : length c.self.inside.places.items ≡ c.args.self.now.size = ap (λ h. h.size) c.self.view_is in
    omega (arith, kept_length _ _ _ (kept_at c.deref_mut.ensures.value c.self.invariant))

pub raise-requires-clause-fits : goal.raise-requires-clause-fits
raise-requires-clause-fits c =
    omega (
      arith,
      kept_sum _ _ _ (kept_at c.deref_mut.ensures.value c.self.invariant),
      standing_few c.self.inside.places.items,
      c.self.inside.places.ok,
      c.self.inside.places.small,
    )

pub invariant_of-self : goal.invariant_of-self
invariant_of-self c =
    let used : c.self.inside.used ≡ c.args.self.now.used = ap (λ h. h.used) c.self.view_is in
    let size : length c.self.inside.places.items ≡ c.args.self.now.size = ap (λ h. h.size) c.self.view_is in
    let written = with_items_is c.self.inside.nodes c.raise.new.nodes (c.raise.auto.nodes ∙ c.deref_mut.ensures.len) in
    let kept = kept_at c.deref_mut.ensures.value c.self.invariant in
    kept_at written (kept_put c.args.value kept (omega arith) c.raise.ensures.sums c.raise.ensures.places)

pub returns : goal.returns
returns c =
    let used : c.self.inside.used ≡ c.args.self.now.used = ap (λ h. h.used) c.self.view_is in
    let size : length c.self.inside.places.items ≡ c.args.self.now.size = ap (λ h. h.size) c.self.view_is in
    same_held
    (stands_put c.args.value c.self.invariant (omega arith) ∙ ap (λ h. h.waiting ++ c.args.value ∷ []) c.self.view_is)
    (length-set c.self.inside.places.items c.self.inside.used (Some c.args.value) ∙ size)
    (omega arith)

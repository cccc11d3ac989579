use Rattle.std.proofs.Common.{◌≡◌, ◌∷◌, ◌++◌, ◌∙◌, [], List, length, reverse, replicate, None, Some, refl, sym, ap, subst}
use Rattle.std.specs.List.{AllByRecursion}
use Rattle.zio_children.specs.RequestKids.{fresh_kids}
use Rattle.zio_exchange.specs.Waits.{pending_of}
use Rattle.zio_exchange.specs.Wholes.{AreOver, joined, root_of, roots_in}
use Rattle.zio_exchange.specs.declared.waiting.UnfinishedRequest.{UnfinishedRequest}
use Rattle.zio_exchange.proofs.WholeLemmas.{root_last}
use Rattle.zio_stages.specs.KidLists.{IsListOf}
use Rattle.zio_stages.specs.KidPointers.{HasValid, HaveValidPointers}
use Rattle.zio_stages.specs.KidTrees.{KidsHeld, trees_left}
use Rattle.zio_stages.proofs.KidListLemmas.{none_left_of}
use Rattle.zio_stages.proofs.KidPointerLemmas.{valid_fresh}
use Rattle.zio_stages.proofs.KidTreeLemmas.{Begun, are_begun, begun, begun_held, begun_kids, due_rise}
use Rattle.zio_stages.proofs.ReverseLemmas.{reverse_twice}
use Rattle.zio_stages.proofs.attempted.RequestKids.begin.Goals as goal

pub due_kids-requires : goal.due_kids-requires
due_kids-requires c =
    let parts = c.into_parts-root.result in
    due_rise parts.0.value parts.1.items c.deref-2.result.now c.into_parts-root.ensures.over (c.deref-2.ensures.value ∙ c.reverse.ensures.items)

pub invariant_of-kids : goal.invariant_of-kids
invariant_of-kids c =
    let parts = c.into_parts-root.result in
    let due = c.reverse.new.self.items in
    begun_held parts.0.value parts.1.items due c.as_slice.result.now c.in-Ok.kids c.in-Ok.again.items c.into_parts-root.ensures.over c.reverse.ensures.items
    (c.in-Ok.ensures.kids ∙ ap (λ (ds : List (List UnfinishedRequest)). fresh_kids (roots_in (reverse ds)) c.as_slice.result.now) c.deref-2.ensures.value)
    (c.in-Ok.ensures.again ∙ ap (λ (ds : List (List UnfinishedRequest)). replicate (length ds) None) c.deref-2.ensures.value)

pub returns-in-Ok-clause-root : goal.returns-in-Ok-clause-root
returns-in-Ok-clause-root c =
    let parts = c.into_parts-root.result in
    ap root_of c.into_parts-root.ensures.list ∙ root_last (joined parts.1.items) parts.0.value
    ∙ ap (λ (w : UnfinishedRequest). Some w) (sym c.into_inner.ensures)

pub returns-in-Ok-clause-kids : goal.returns-in-Ok-clause-kids
returns-in-Ok-clause-kids c = λ attempt p forest h.
    let parts = c.into_parts-root.result in
    let due = c.reverse.new.self.items in
    let b : Begun (joined parts.1.items) parts.0.value p forest =
    begun c.args.whole (joined parts.1.items) parts.0.value p forest c.into_parts-root.ensures.list h in (
      ap pending_of c.into_inner.ensures ∙ b.seen,
      begun_kids parts.0.value parts.1.items due c.as_slice.result.now c.in-Ok.kids c.in-Ok.again.items attempt forest c.into_parts-root.ensures.over
          c.reverse.ensures.items
          (c.in-Ok.ensures.kids ∙ ap (λ (ds : List (List UnfinishedRequest)). fresh_kids (roots_in (reverse ds)) c.as_slice.result.now) c.deref-2.ensures.value)
          (c.in-Ok.ensures.again ∙ ap (λ (ds : List (List UnfinishedRequest)). replicate (length ds) None) c.deref-2.ensures.value)
          c.in-Ok.ensures.fits b.under,
    )

pub returns-in-Ok-clause-valid : goal.returns-in-Ok-clause-valid
returns-in-Ok-clause-valid c = λ h.
    subst HaveValidPointers (sym c.in-Ok.ensures.kids)
    (valid_fresh _ c.as_slice.result.now
    (subst (AllByRecursion HasValid) (ap (λ (w : UnfinishedRequest). w.kept) (c.into_inner.ensures ∙ sym c.deref.ensures) ∙ sym c.as_slice.ensures) h))

pub returns-in-Ok-clause-list : goal.returns-in-Ok-clause-list
returns-in-Ok-clause-list c =
    let parts = c.into_parts-root.result in
    let back : parts.1.items ≡ reverse c.reverse.new.self.items = sym (ap reverse c.reverse.ensures.items ∙ reverse_twice parts.1.items) in
    record {
      list = c.into_parts-root.ensures.list ∙ (λ i. joined (back i) ++ sym c.into_inner.ensures i ∷ []);
      none = ap trees_left (c.in-Ok.ensures.again) ∙ none_left_of (length c.deref-2.result.now);
    }

pub returns-in-Ok-clause-begun : goal.returns-in-Ok-clause-begun
returns-in-Ok-clause-begun c =
    let parts = c.into_parts-root.result in
    let due = c.reverse.new.self.items in
    are_begun c.into_inner.result parts.1.items due c.as_slice.result.now c.in-Ok.kids c.in-Ok.again.items
    (subst (AreOver parts.1.items) (sym c.into_inner.ensures) c.into_parts-root.ensures.over) c.reverse.ensures.items
    (c.in-Ok.ensures.kids ∙ ap (λ (ds : List (List UnfinishedRequest)). fresh_kids (roots_in (reverse ds)) c.as_slice.result.now) c.deref-2.ensures.value)
    (c.in-Ok.ensures.again ∙ ap (λ (ds : List (List UnfinishedRequest)). replicate (length ds) None) c.deref-2.ensures.value)

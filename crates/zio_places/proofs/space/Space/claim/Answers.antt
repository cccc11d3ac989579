use Rattle.std.proofs.Common.{◌≡◌, [], List, refl, sym, ap, subst, ◌∙◌, arith}
use Rattle.std.specs.Vec.{with_items}
use Rattle.std.proofs.lemmas.Bool.{false≢true}
use Rattle.std.specs.Prelude.{true}
use Rattle.std.proofs.lemmas.List.{with_items_is}
use Rattle.zio_types.specs.declared.place.Place.{Place}
use Rattle.zio_places.specs.Spaces.{SpaceState, are_on_tops, IsSound}
use Rattle.zio_places.specs.Tables.{TopState, sizes_of, live_of, AreConsistent, AreAllocated}
use Rattle.zio_places.specs.Ordered.{all_placed_in}
use Rattle.zio_places.proofs.AllocateLemmas.{AreConsistent-allocate, AreAllocated-same}
use Rattle.zio_places.proofs.PlaceLemmas.{Contains-nothing}
use Rattle.zio_places.proofs.UnitLemmas.{AreAligned-inside}
use Rattle.zio_places.proofs.OrderLemmas.{live-allocated}
use Rattle.zio_places.proofs.SpaceLemmas.{AreConsistent-counted, counted-held, sound-counted}
use Rattle.zio_places.proofs.space.Space.claim.Goals as goal

-- what was held and released again is as before
released : (old new at final : List TopState) {between : List TopState} (places : List Place) → AreAllocated old new places → at ≡ between → between ≡ new → AreAllocated final at places → AreAllocated old final []
released old new at final {between} places held first second back = AreAllocated-same old new final places held (subst (λ ts. AreAllocated final ts places) (first ∙ second) back)

pub returns-then-not-all_on_tops-clause-taken : goal.returns-then-not-all_on_tops-clause-taken
returns-then-not-all_on_tops-clause-taken c =
    let inside : c.all_on_tops.result ≡ are_on_tops c.args.self.now.sizes c.args.places.now =
    c.all_on_tops.ensures ∙ ap (λ ts. are_on_tops (sizes_of ts) c.args.places.now) c.deref.ensures.value ∙ ap (λ (st : SpaceState). are_on_tops st.sizes c.args.places.now) c.self.view_is in (
      (λ e. absurd (cc)),
      (λ h. absurd (false≢true (sym c.if-not-all_on_tops.true ∙ inside ∙ h.0))),
    )

pub returns-then-not-all_on_tops-clause-sound : goal.returns-then-not-all_on_tops-clause-sound
returns-then-not-all_on_tops-clause-sound c = subst IsSound c.self.view_is (sound-counted _ _ _ _ _ _ _ _ c.self.invariant)

pub allocate_all-requires-clause-kept : goal.allocate_all-requires-clause-kept
allocate_all-requires-clause-kept c =
    subst AreConsistent (sym c.deref_mut.ensures.value) (AreConsistent-counted c.self.inside.tops.items c.self.inside.pending.items c.self.invariant.count c.self.invariant.even)

pub invariant_of-self : goal.invariant_of-self
invariant_of-self c =
    let written : (with_items c.self.inside.tops c.allocate_all.new.tops).items ≡ c.allocate_all.new.tops = with_items_is c.self.inside.tops c.allocate_all.new.tops (omega arith) in
    let same = subst (λ ts. AreAllocated ts c.allocate_all.new.tops []) c.deref_mut.ensures.value (c.if-not-allocate_all.ensures.unchanged refl) in
    rw written
    (counted-held c.self.inside.tops.items c.allocate_all.new.tops [] c.self.inside.pending.items c.self.inside.live c.self.inside.spare _ _ _ _ _ _ _ same (λ p there. absurd (Contains-nothing p there)) c.self.invariant
    (omega arith) (omega (arith, c.self.invariant.pending_fit)) c.self.invariant.entries_fit)

pub returns-then-not-allocate_all-clause-outside : goal.returns-then-not-allocate_all-clause-outside
returns-then-not-allocate_all-clause-outside c =
    let inside : c.all_on_tops.result ≡ are_on_tops c.args.self.now.sizes c.args.places.now =
    c.all_on_tops.ensures ∙ ap (λ ts. are_on_tops (sizes_of ts) c.args.places.now) c.deref.ensures.value ∙ ap (λ (st : SpaceState). are_on_tops st.sizes c.args.places.now) c.self.view_is in (
      (λ e. absurd (cc)),
      (λ h. absurd (false≢true (sym h ∙ sym inside ∙ c.if-not-all_on_tops.false))),
    )

pub returns-then-not-allocate_all-clause-err : goal.returns-then-not-allocate_all-clause-err
returns-then-not-allocate_all-clause-err c =
    let written : (with_items c.self.inside.tops c.allocate_all.new.tops).items ≡ c.allocate_all.new.tops = with_items_is c.self.inside.tops c.allocate_all.new.tops (omega arith) in
    let same = subst (λ ts. AreAllocated ts c.allocate_all.new.tops []) c.deref_mut.ensures.value (c.if-not-allocate_all.ensures.unchanged refl) in
    let live : live_of (with_items c.self.inside.tops c.allocate_all.new.tops).items ≡ live_of c.self.inside.tops.items = ap live_of written ∙ live-allocated c.self.inside.tops.items c.allocate_all.new.tops [] same in
    let sizes : sizes_of (with_items c.self.inside.tops c.allocate_all.new.tops).items ≡ sizes_of c.self.inside.tops.items = ap sizes_of written ∙ same.sizes in
    let state : List _ → List Place → SpaceState = λ ss ls. record { sizes = ss; live = ls; pending = c.self.inside.pending.items; entries = c.self.inside.entries.items; spare = c.self.inside.spare } in
    ap (λ ss. state ss (live_of (with_items c.self.inside.tops c.allocate_all.new.tops).items)) sizes ∙ ap (state (sizes_of c.self.inside.tops.items)) live ∙ c.self.view_is

pub returns-then-not-allocate_all-clause-sound : goal.returns-then-not-allocate_all-clause-sound
returns-then-not-allocate_all-clause-sound c = sound-counted _ _ _ _ _ _ _ _ (invariant_of-self c)

pub invariant_of-self-in-Ok : goal.invariant_of-self-in-Ok
invariant_of-self-in-Ok c =
    let written : (with_items c.self.inside.tops c.allocate_all.new.tops).items ≡ c.allocate_all.new.tops = with_items_is c.self.inside.tops c.allocate_all.new.tops (omega arith) in
    let held = subst (λ ts. AreAllocated ts c.allocate_all.new.tops c.args.places.now) c.deref_mut.ensures.value (c.if-not-allocate_all.ensures.held refl) in
    let inside : are_on_tops (sizes_of c.self.inside.tops.items) c.args.places.now ≡ true =
    ap (λ ts. are_on_tops (sizes_of ts) c.args.places.now) (sym c.deref.ensures.value) ∙ sym c.all_on_tops.ensures ∙ c.if-not-all_on_tops.false in
    rw (written, c.reserve.ensures.items)
    (counted-held c.self.inside.tops.items c.allocate_all.new.tops c.args.places.now c.self.inside.pending.items c.self.inside.live c.self.inside.spare _ _ _ _ _ _ _ held (AreAligned-inside (sizes_of c.self.inside.tops.items) c.args.places.now inside) c.self.invariant
    refl (omega (arith, c.in-Ok.ensures.ok, c.reserve.ensures.len, c.self.inside.pending.ok.0)) c.self.invariant.entries_fit)

pub release_all-requires-clause-kept : goal.release_all-requires-clause-kept
release_all-requires-clause-kept c =
    let written : (with_items c.self.inside.tops c.allocate_all.new.tops).items ≡ c.allocate_all.new.tops = with_items_is c.self.inside.tops c.allocate_all.new.tops (omega arith) in
    let held = subst (λ ts. AreAllocated ts c.allocate_all.new.tops c.args.places.now) c.deref_mut.ensures.value (c.if-not-allocate_all.ensures.held refl) in
    let kept = AreConsistent-counted c.self.inside.tops.items c.self.inside.pending.items c.self.invariant.count c.self.invariant.even in
    subst AreConsistent (sym (c.deref_mut-in-Err.ensures.value ∙ written)) (AreConsistent-allocate c.self.inside.tops.items c.allocate_all.new.tops c.args.places.now held kept)

pub invariant_of-self-in-Err : goal.invariant_of-self-in-Err
invariant_of-self-in-Err c =
    let first : (with_items c.self.inside.tops c.allocate_all.new.tops).items ≡ c.allocate_all.new.tops = with_items_is c.self.inside.tops c.allocate_all.new.tops (omega arith) in
    let held = subst (λ ts. AreAllocated ts c.allocate_all.new.tops c.args.places.now) c.deref_mut.ensures.value (c.if-not-allocate_all.ensures.held refl) in
    let same = released c.self.inside.tops.items c.allocate_all.new.tops _ c.release_all.new.tops c.args.places.now held c.deref_mut-in-Err.ensures.value first c.release_all.ensures in
    let written : (with_items (with_items c.self.inside.tops c.allocate_all.new.tops) c.release_all.new.tops).items ≡ c.release_all.new.tops = with_items_is (with_items c.self.inside.tops c.allocate_all.new.tops) c.release_all.new.tops (omega arith) in
    rw (written, c.reserve.ensures.items)
    (counted-held c.self.inside.tops.items c.release_all.new.tops [] c.self.inside.pending.items c.self.inside.live c.self.inside.spare _ _ _ _ _ _ _ same (λ p there. absurd (Contains-nothing p there)) c.self.invariant
    (omega arith) (omega (arith, c.self.invariant.pending_fit, c.reserve.ensures.capacity)) c.self.invariant.entries_fit)

pub returns-in-Ok-clause-ok : goal.returns-in-Ok-clause-ok
returns-in-Ok-clause-ok c =
    let written : (with_items c.self.inside.tops c.allocate_all.new.tops).items ≡ c.allocate_all.new.tops = with_items_is c.self.inside.tops c.allocate_all.new.tops (omega arith) in
    let held = subst (λ ts. AreAllocated ts c.allocate_all.new.tops c.args.places.now) c.deref_mut.ensures.value (c.if-not-allocate_all.ensures.held refl) in
    let live : live_of (with_items c.self.inside.tops c.allocate_all.new.tops).items ≡ all_placed_in c.args.places.now c.args.self.now.live =
    ap live_of written ∙ live-allocated c.self.inside.tops.items c.allocate_all.new.tops c.args.places.now held
    ∙ ap (λ (st : SpaceState). all_placed_in c.args.places.now st.live) c.self.view_is in
    let sizes : sizes_of (with_items c.self.inside.tops c.allocate_all.new.tops).items ≡ c.args.self.now.sizes =
    ap sizes_of written ∙ held.sizes ∙ ap (λ (st : SpaceState). st.sizes) c.self.view_is in
    let pending = c.reserve.ensures.items ∙ ap (λ (st : SpaceState). st.pending) c.self.view_is in
    let entries = ap (λ (st : SpaceState). st.entries) c.self.view_is in
    let spare = ap (λ (st : SpaceState). st.spare) c.self.view_is in
    cc

pub returns-in-Ok-clause-outside : goal.returns-in-Ok-clause-outside
returns-in-Ok-clause-outside c =
    let inside : c.all_on_tops.result ≡ are_on_tops c.args.self.now.sizes c.args.places.now =
    c.all_on_tops.ensures ∙ ap (λ ts. are_on_tops (sizes_of ts) c.args.places.now) c.deref.ensures.value ∙ ap (λ (st : SpaceState). are_on_tops st.sizes c.args.places.now) c.self.view_is in (
      (λ e. absurd (cc)),
      (λ h. absurd (false≢true (sym h ∙ sym inside ∙ c.if-not-all_on_tops.false))),
    )

pub returns-in-Ok-clause-sound : goal.returns-in-Ok-clause-sound
returns-in-Ok-clause-sound c = sound-counted _ _ _ _ _ _ _ _ (invariant_of-self-in-Ok c)

pub returns-in-Err-clause-err : goal.returns-in-Err-clause-err
returns-in-Err-clause-err c =
    let first : (with_items c.self.inside.tops c.allocate_all.new.tops).items ≡ c.allocate_all.new.tops = with_items_is c.self.inside.tops c.allocate_all.new.tops (omega arith) in
    let written : (with_items (with_items c.self.inside.tops c.allocate_all.new.tops) c.release_all.new.tops).items ≡ c.release_all.new.tops = with_items_is (with_items c.self.inside.tops c.allocate_all.new.tops) c.release_all.new.tops (omega arith) in
    let held = subst (λ ts. AreAllocated ts c.allocate_all.new.tops c.args.places.now) c.deref_mut.ensures.value (c.if-not-allocate_all.ensures.held refl) in
    let same = released c.self.inside.tops.items c.allocate_all.new.tops _ c.release_all.new.tops c.args.places.now held c.deref_mut-in-Err.ensures.value first c.release_all.ensures in
    let live : live_of (with_items (with_items c.self.inside.tops c.allocate_all.new.tops) c.release_all.new.tops).items ≡ live_of c.self.inside.tops.items = ap live_of written ∙ live-allocated c.self.inside.tops.items c.release_all.new.tops [] same in
    let sizes : sizes_of (with_items (with_items c.self.inside.tops c.allocate_all.new.tops) c.release_all.new.tops).items ≡ sizes_of c.self.inside.tops.items = ap sizes_of written ∙ same.sizes in
    let state : List _ → List Place → List Place → SpaceState = λ ss ls ps. record { sizes = ss; live = ls; pending = ps; entries = c.self.inside.entries.items; spare = c.self.inside.spare } in
    ap (λ ss. state ss (live_of (with_items (with_items c.self.inside.tops c.allocate_all.new.tops) c.release_all.new.tops).items) c.reserve.new.self.items) sizes
    ∙ ap (λ ls. state (sizes_of c.self.inside.tops.items) ls c.reserve.new.self.items) live
    ∙ ap (state (sizes_of c.self.inside.tops.items) (live_of c.self.inside.tops.items)) c.reserve.ensures.items ∙ c.self.view_is

pub returns-in-Err-clause-sound : goal.returns-in-Err-clause-sound
returns-in-Err-clause-sound c = sound-counted _ _ _ _ _ _ _ _ (invariant_of-self-in-Err c)

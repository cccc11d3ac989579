use Rattle.std.proofs.Common.{◌≡◌, ◌∷◌, ◌++◌, [], sym, ap, subst, ◌∙◌, arith}
use Rattle.std.specs.Prelude.{Contains, ◌&&◌}
use Rattle.std.specs.Vec.{with_items}
use Rattle.std.proofs.lemmas.List.{with_items_is}
use Rattle.zio_types.specs.Places.{is_free}
use Rattle.zio_places.specs.Ordered.{without}
use Rattle.zio_places.specs.Spaces.{SpaceState, is_on_top}
use Rattle.zio_places.specs.Tables.{sizes_of, live_of, AreConsistent, AreAllocated}
use Rattle.zio_places.proofs.OrderLemmas.{live-removed}
use Rattle.zio_places.proofs.SpaceLemmas.{AreConsistent-counted, counted-released, released-open, sound-counted}
use Rattle.zio_places.proofs.space.Space.release.Goals as goal

pub release-requires-clause-kept : goal.release-requires-clause-kept
release-requires-clause-kept c =
    subst AreConsistent (sym c.deref_mut.ensures.value) (AreConsistent-counted c.self.inside.tops.items c.self.inside.pending.items c.self.invariant.count c.self.invariant.even)

pub release-requires-clause-live : goal.release-requires-clause-live
release-requires-clause-live c =
    let live = subst (λ (st : SpaceState). Contains st.live c.args.place) (sym c.self.view_is) c.requires in
    subst (λ ts. Contains (live_of ts) c.args.place) (sym c.deref_mut.ensures.value) live

pub invariant_of-self : goal.invariant_of-self
invariant_of-self c =
    let written : (with_items c.self.inside.tops c.release.new.tops).items ≡ c.release.new.tops = with_items_is c.self.inside.tops c.release.new.tops (omega arith) in
    let released = subst (λ ts. AreAllocated c.release.new.tops ts (c.args.place ∷ [])) c.deref_mut.ensures.value c.release.ensures in
    rw written
    (counted-released c.self.inside.tops.items c.release.new.tops c.args.place c.self.inside.pending.items c.self.inside.live c.self.inside.spare _ _ _ _ released c.self.invariant (omega arith))

pub returns-clause-same : goal.returns-clause-same
returns-clause-same c =
    let written : (with_items c.self.inside.tops c.release.new.tops).items ≡ c.release.new.tops = with_items_is c.self.inside.tops c.release.new.tops (omega arith) in
    let released = subst (λ ts. AreAllocated c.release.new.tops ts (c.args.place ∷ [])) c.deref_mut.ensures.value c.release.ensures in
    let there = subst (λ (st : SpaceState). Contains st.live c.args.place) (sym c.self.view_is) c.requires in
    let live : live_of (with_items c.self.inside.tops c.release.new.tops).items ≡ without c.args.place c.args.self.now.live =
    ap live_of written
    ∙ live-removed c.self.inside.tops.items c.release.new.tops c.args.place (λ f. omega (arith, released.live f)) there
    ∙ ap (λ (st : SpaceState). without c.args.place st.live) c.self.view_is in
    let sizes : sizes_of (with_items c.self.inside.tops c.release.new.tops).items ≡ c.args.self.now.sizes =
    ap sizes_of written ∙ sym released.sizes ∙ ap (λ (st : SpaceState). st.sizes) c.self.view_is in
    let entries = ap (λ (st : SpaceState). st.entries) c.self.view_is in
    let spare = ap (λ (st : SpaceState). st.spare) c.self.view_is in
    let pending = ap (λ (st : SpaceState). st.pending) c.self.view_is in
    cc

pub returns-clause-open : goal.returns-clause-open
returns-clause-open c =
    let written : (with_items c.self.inside.tops c.release.new.tops).items ≡ c.release.new.tops = with_items_is c.self.inside.tops c.release.new.tops (omega arith) in
    let released = subst (λ ts. AreAllocated c.release.new.tops ts (c.args.place ∷ [])) c.deref_mut.ensures.value c.release.ensures in
    let there = subst (λ (st : SpaceState). Contains st.live c.args.place) (sym c.self.view_is) c.requires in
    let sure = released-open c.self.inside.tops.items c.release.new.tops c.args.place c.self.inside.pending.items c.self.inside.live c.self.inside.spare _ _ _ released there c.self.invariant in
    ap (λ ts. is_on_top (sizes_of ts) c.args.place && is_free (live_of ts ++ c.self.inside.pending.items) c.args.place) written ∙ sure

pub returns-clause-sound : goal.returns-clause-sound
returns-clause-sound c = sound-counted _ _ _ _ _ _ _ _ (invariant_of-self c)

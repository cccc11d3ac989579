use Rattle.std.proofs.Common.{◌≡◌, sym, ap, subst, ◌∙◌, arith}
use Rattle.std.specs.Vec.{with_items}
use Rattle.std.proofs.lemmas.List.{with_items_is}
use Rattle.zio_places.specs.Spaces.{SpaceState}
use Rattle.zio_places.specs.Tables.{sizes_of, live_of, covers, one_if, AreMarkedUsed}
use Rattle.zio_places.proofs.PlaceLemmas.{total-append}
use Rattle.zio_places.proofs.AllocateLemmas.{live_of-same}
use Rattle.zio_places.proofs.SpaceLemmas.{counted-closed, sound-counted}
use Rattle.zio_places.proofs.space.Space.close_round.Goals as goal

pub clear_all-requires-clause-taken : goal.clear_all-requires-clause-taken
clear_all-requires-clause-taken c =
    rw (c.deref.ensures.value, c.deref_mut.ensures.value)
    (λ top sector. omega (arith, c.self.invariant.count top sector, total-append (λ p. one_if (covers p top sector)) (live_of c.self.inside.tops.items) c.self.inside.pending.items))

pub invariant_of-self : goal.invariant_of-self
invariant_of-self c =
    let written : (with_items c.self.inside.tops c.clear_all.new.tops).items ≡ c.clear_all.new.tops = with_items_is c.self.inside.tops c.clear_all.new.tops (omega arith) in
    let cleared = subst (λ ps. AreMarkedUsed c.clear_all.new.tops c.self.inside.tops.items ps) c.deref.ensures.value (subst (λ ts. AreMarkedUsed c.clear_all.new.tops ts c.deref.result.now) c.deref_mut.ensures.value c.clear_all.ensures) in
    rw (written, c.clear.ensures.items, c.clear.ensures.capacity)
    (counted-closed c.self.inside.tops.items c.clear_all.new.tops c.self.inside.pending.items c.self.inside.live c.self.inside.spare _ _ _ cleared c.self.invariant)

pub returns-clause-same : goal.returns-clause-same
returns-clause-same c =
    let written : (with_items c.self.inside.tops c.clear_all.new.tops).items ≡ c.clear_all.new.tops = with_items_is c.self.inside.tops c.clear_all.new.tops (omega arith) in
    let cleared = subst (λ ts. AreMarkedUsed c.clear_all.new.tops ts c.deref.result.now) c.deref_mut.ensures.value c.clear_all.ensures in
    let live : live_of (with_items c.self.inside.tops c.clear_all.new.tops).items ≡ c.args.self.now.live =
    ap live_of written ∙ sym (live_of-same c.clear_all.new.tops c.self.inside.tops.items cleared.lengths cleared.sizes) ∙ ap (λ (st : SpaceState). st.live) c.self.view_is in
    let sizes : sizes_of (with_items c.self.inside.tops c.clear_all.new.tops).items ≡ c.args.self.now.sizes =
    ap sizes_of written ∙ sym cleared.sizes ∙ ap (λ (st : SpaceState). st.sizes) c.self.view_is in
    let entries = ap (λ (st : SpaceState). st.entries) c.self.view_is in
    let spare = ap (λ (st : SpaceState). st.spare) c.self.view_is in
    let pending = c.clear.ensures.items in
    cc

pub returns-clause-sound : goal.returns-clause-sound
returns-clause-sound c = sound-counted _ _ _ _ _ _ _ _ (invariant_of-self c)

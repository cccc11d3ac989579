use Rattle.std.proofs.Common.{◌≡◌, ◌++◌, ◌∷◌, [], sym, ap, subst, ◌∙◌, arith}
use Rattle.std.specs.Prelude.{Contains}
use Rattle.std.specs.Vec.{with_items}
use Rattle.std.proofs.lemmas.List.{with_items_is}
use Rattle.zio_places.specs.Spaces.{SpaceState}
use Rattle.zio_places.specs.Tables.{live_of, length_at, IsEntered}
use Rattle.zio_places.proofs.TableLemmas.{live-length}
use Rattle.zio_places.proofs.SpaceLemmas.{counted-given_back, sound-counted}
use Rattle.zio_places.proofs.OrderLemmas.{live-removed}
use Rattle.zio_places.specs.Ordered.{without}
use Rattle.zio_places.proofs.space.Space.give_back.Goals as goal

pub remove-requires-clause-filled : goal.remove-requires-clause-filled
remove-requires-clause-filled c =
    let live = subst (λ (st : SpaceState). Contains st.live c.args.place) (sym c.self.view_is) c.requires in
    (live-length c.self.inside.tops.items c.args.place live).0

pub remove-requires-clause-live : goal.remove-requires-clause-live
remove-requires-clause-live c =
    let live = subst (λ (st : SpaceState). Contains st.live c.args.place) (sym c.self.view_is) c.requires in
    subst (λ ts. length_at ts c.args.place.top c.args.place.sector ≡ c.args.place.sectors) (sym c.deref_mut.ensures.value) (live-length c.self.inside.tops.items c.args.place live).1

pub invariant_of-self : goal.invariant_of-self
invariant_of-self c =
    let written : (with_items c.self.inside.tops c.remove.new.tops).items ≡ c.remove.new.tops = with_items_is c.self.inside.tops c.remove.new.tops (omega arith) in
    let removed = subst (λ ts. IsEntered c.remove.new.tops ts c.args.place) c.deref_mut.ensures.value c.remove.ensures in
    let live = subst (λ (st : SpaceState). Contains st.live c.args.place) (sym c.self.view_is) c.requires in
    rw (written, c.push_reserved.ensures.items, c.push_reserved.ensures.capacity)
    (counted-given_back c.self.inside.tops.items c.remove.new.tops c.args.place c.self.inside.pending.items c.self.inside.live c.self.inside.spare _ _ _ _ removed
    live c.self.invariant (omega arith))

pub returns-clause-live : goal.returns-clause-live
returns-clause-live c =
    let written : (with_items c.self.inside.tops c.remove.new.tops).items ≡ c.remove.new.tops = with_items_is c.self.inside.tops c.remove.new.tops (omega arith) in
    let removed = subst (λ ts. IsEntered c.remove.new.tops ts c.args.place) c.deref_mut.ensures.value c.remove.ensures in
    let live = subst (λ (st : SpaceState). Contains st.live c.args.place) (sym c.self.view_is) c.requires in
    ap live_of written ∙ live-removed c.self.inside.tops.items c.remove.new.tops c.args.place removed.live live
    ∙ ap (λ (st : SpaceState). without c.args.place st.live) c.self.view_is

pub returns-clause-pending : goal.returns-clause-pending
returns-clause-pending c = c.push_reserved.ensures.items ∙ ap (λ (st : SpaceState). st.pending ++ c.args.place ∷ []) c.self.view_is

pub returns-clause-sound : goal.returns-clause-sound
returns-clause-sound c = sound-counted _ _ _ _ _ _ _ _ (invariant_of-self c)

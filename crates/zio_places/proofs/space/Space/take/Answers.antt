use Rattle.std.proofs.Common.{◌≡◌, ◌++◌, [], List, refl, sym, ap, subst, ◌∙◌, arith}
use Rattle.std.specs.Vec.{with_items}
use Rattle.std.proofs.lemmas.List.{with_items_is}
use Rattle.zio_types.specs.Choices.{Choice, taken_by}
use Rattle.zio_types.specs.declared.place.Place.{Place}
use Rattle.zio_types.specs.Places.{IsLawfulChoice}
use Rattle.zio_places.specs.Ordered.{all_placed_in}
use Rattle.zio_places.specs.Spaces.{SpaceState, used}
use Rattle.zio_places.specs.Tables.{TopState, sizes_of, live_of, AreAligned, AreBitmapsOf, AreConsistent, AreAllocated}
use Rattle.zio_places.proofs.SpaceLemmas.{AreConsistent-counted, counted-held, sound-counted}
use Rattle.zio_places.proofs.OrderLemmas.{live-allocated}
use Rattle.zio_places.proofs.UnitLemmas.{AreAligned-copies, AreAligned-taken}
use Rattle.zio_places.proofs.space.Space.take.Goals as goal

-- what a lawful choice takes stands on whole units
whole : (tops : List TopState) (used : List Place) (choice : Choice) → IsLawfulChoice (sizes_of tops) used choice → AreAligned (sizes_of tops) (taken_by choice)
whole tops used choice h = AreAligned-taken (sizes_of tops) choice (AreAligned-copies (sizes_of tops) tops used choice.asked.size [] choice.places refl h.copies)

pub take_copies-entry-requires-clause-kept : goal.take_copies-entry-requires-clause-kept
take_copies-entry-requires-clause-kept c =
    subst AreConsistent (sym c.deref_mut.ensures.value) (AreConsistent-counted c.self.inside.tops.items c.self.inside.pending.items c.self.invariant.count c.self.invariant.even)

pub invariant_of-self : goal.invariant_of-self
invariant_of-self c =
    let written : (with_items c.self.inside.tops c.take_copies-entry.new.tops).items ≡ c.take_copies-entry.new.tops =
    with_items_is c.self.inside.tops c.take_copies-entry.new.tops (omega arith) in
    let held = subst (λ ts. AreAllocated ts c.take_copies-entry.new.tops (taken_by c.take_copies-entry.result)) c.deref_mut.ensures.value c.take_copies-entry.ensures.held in
    let lawful : IsLawfulChoice (sizes_of c.self.inside.tops.items) (live_of c.self.inside.tops.items ++ c.self.inside.pending.items) c.take_copies-entry.result =
    subst (λ ts. (us : List Place) → AreBitmapsOf us ts → AreAligned (sizes_of ts) us → IsLawfulChoice (sizes_of ts) us c.take_copies-entry.result) c.deref_mut.ensures.value c.take_copies-entry.ensures.lawful
    (live_of c.self.inside.tops.items ++ c.self.inside.pending.items) c.self.invariant.count c.self.invariant.aligned in
    rw (written, c.push_reserved.ensures.capacity)
    (counted-held c.self.inside.tops.items c.take_copies-entry.new.tops (taken_by c.take_copies-entry.result) c.self.inside.pending.items c.self.inside.live c.self.inside.spare _ _ _ _ _ _ _ held (whole c.self.inside.tops.items (live_of c.self.inside.tops.items ++ c.self.inside.pending.items) c.take_copies-entry.result lawful) c.self.invariant
    (omega (arith, c.taken_count.ensures.count)) (omega (arith, c.taken_count.ensures.count, c.taken_count.ensures.most, c.requires.room, c.self.invariant.pending_fit, ap (λ (st : SpaceState). st.spare) c.self.view_is)) (omega (arith, c.push_reserved.ensures.len, c.self.invariant.entries_fit, c.requires.room)))

pub returns-clause-live : goal.returns-clause-live
returns-clause-live c =
    let written : (with_items c.self.inside.tops c.take_copies-entry.new.tops).items ≡ c.take_copies-entry.new.tops =
    with_items_is c.self.inside.tops c.take_copies-entry.new.tops (omega arith) in
    let held = subst (λ ts. AreAllocated ts c.take_copies-entry.new.tops (taken_by c.take_copies-entry.result)) c.deref_mut.ensures.value c.take_copies-entry.ensures.held in
    ap live_of written ∙ live-allocated c.self.inside.tops.items c.take_copies-entry.new.tops (taken_by c.take_copies-entry.result) held
    ∙ ap (λ (st : SpaceState). all_placed_in (taken_by c.take_copies-entry.result) st.live) c.self.view_is

pub returns-clause-lawful : goal.returns-clause-lawful
returns-clause-lawful c =
    let before = subst (λ ts. (us : List Place) → AreBitmapsOf us ts → AreAligned (sizes_of ts) us → IsLawfulChoice (sizes_of ts) us c.take_copies-entry.result) c.deref_mut.ensures.value c.take_copies-entry.ensures.lawful in
    subst (λ (st : SpaceState). IsLawfulChoice st.sizes (used st) c.take_copies-entry.result) c.self.view_is
    (before (live_of c.self.inside.tops.items ++ c.self.inside.pending.items) c.self.invariant.count c.self.invariant.aligned)

pub returns-clause-sound : goal.returns-clause-sound
returns-clause-sound c = sound-counted _ _ _ _ _ _ _ _ (invariant_of-self c)

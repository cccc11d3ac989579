use Rattle.std.proofs.Common.{◌≡◌, ℕ, ◌<◌, List, length, ◌+◌, ◌∷◌, ◌++◌, [], get_or, take, drop, sym, ap, subst, ◌∙◌}
use Rattle.std.specs.Prelude.{true}
use Rattle.std.proofs.Common.{inl, inr}
use Rattle.std.proofs.lemmas.Bool.{cases_Bool, and_parts, false≢true}
use Rattle.std.proofs.lemmas.List.{take_more}
use Rattle.zio_types.specs.Choices.{no_place}
use Rattle.zio_types.specs.declared.place.Place.{Place}
use Rattle.zio_types.specs.Places.{is_inside, is_aligned, are_open}
use Rattle.zio_places.specs.Spaces.{is_on_top, are_on_tops}
use Rattle.zio_places.specs.Tables.{TopState, AreAllocated, sizes_of}
use Rattle.zio_places.proofs.AllocateLemmas.{AreAllocated-then}
use Rattle.zio_places.proofs.CountLemmas.{places-at, list_all-at, are_open-front, are_open-push, AreBitmapsOf-allocate, flags-from_is_free, is_free-from_flags}
use Rattle.zio_places.proofs.tops.allocate_all.Goals as goal

-- each of the places is inside its top
place-inside : (old now : List TopState) (places : List Place) (i : ℕ) → i < length places → are_on_tops (sizes_of old) places ≡ true → sizes_of now ≡ sizes_of old → is_inside (sizes_of now) (get_or places i no_place) ≡ true
place-inside old now places i here all same =
    let p = get_or places i no_place in
    ap (λ sizes. is_inside sizes p) same ∙ (and_parts (is_inside (sizes_of old) p) (is_aligned (sizes_of old) p) (list_all-at (is_on_top (sizes_of old)) places i no_place here all)).0

pub is_open-requires-clause-inside : goal.is_open-requires-clause-inside
is_open-requires-clause-inside c =
    place-inside c.args.tops.now c.loop-i.tops c.args.places.now c.loop-i.i c.loop-i-test.true c.requires.inside c.loop-i.invariant.held.sizes

pub returns-then-not-is_open-clause-exact : goal.returns-then-not-is_open-clause-exact
returns-then-not-is_open-clause-exact c used count =
    let places = c.args.places.now in
    let i = c.loop-i.i in
    let p = get_or places i no_place in
    let held = c.loop-i.invariant.held in
    elim (cases_Bool (are_open used places)) [
      | inl all ↦
          let split : are_open used (take i places ++ p ∷ drop (i + 1) places) ≡ true = ap (are_open used) (sym (places-at places i no_place c.loop-i-test.true)) ∙ all in
          let inside : is_inside (sizes_of c.loop-i.tops) p ≡ true = place-inside c.args.tops.now c.loop-i.tops places i c.loop-i-test.true c.requires.inside held.sizes in
          let room = flags-from_is_free (take i places ++ used) c.loop-i.tops p (AreBitmapsOf-allocate used c.args.tops.now c.loop-i.tops (take i places) count held) (held.even c.requires.kept.even) inside (are_open-front used (take i places) (drop (i + 1) places) p split) in
          absurd (false≢true (sym c.if-not-is_open.true ∙ c.is_open.ensures.1 room))
      | inr some ↦ sym some
    ]

pub loop-i-preserved : goal.loop-i-preserved
loop-i-preserved c =
    let places = c.args.places.now in
    let i = c.loop-i.i in
    let p = get_or places i no_place in
    let held = c.loop-i.invariant.held in
    let more = take_more places i no_place c.loop-i-test.true in
    record {
      held =
          subst (λ ps. AreAllocated c.args.tops.now c.allocate.new.tops ps) (sym more)
          (AreAllocated-then c.args.tops.now c.loop-i.tops c.allocate.new.tops (take i places) (p ∷ []) held c.allocate.ensures);
      open_so_far = λ used count.
          ap (are_open used) more
          ∙ are_open-push used (take i places) p (c.loop-i.invariant.open_so_far used count)
          (is_free-from_flags (take i places ++ used) c.loop-i.tops p (AreBitmapsOf-allocate used c.args.tops.now c.loop-i.tops (take i places) count held) (c.is_open.ensures.0 c.if-not-is_open.false));
    }

-- What a space holds as a chooser of places.
use Rattle.std.proofs.Common.{◌≡◌, ◌≢◌, ◌<◌, ◌+◌, ℕ, zero, suc, List, [], ◌∷◌, ◌++◌, inl, inr, append_assoc, refl, sym, ap, subst, ◌∙◌, arith, get_or, length, take, drop}
use Rattle.std.specs.Prelude.{Bool, true, false, not, Contains, ◌↔◌, nat_lt, nat_le, ◌==◌, max, min, slice_get}
use Rattle.std.specs.List.{list_all, AllByRecursion}
use Rattle.std.proofs.lemmas.Bool.{and_parts, and_from, eq-eqb, false≢true, lt-ltb, ltb-true}
use Rattle.std.proofs.lemmas.List.Elements.{Contains-append_left, Contains-append_right, Contains-append_cases}
use Rattle.std.proofs.lemmas.List.Folds.{list_all-append}
use Rattle.zio_types.specs.declared.place.Place.{Place}
use Rattle.zio_types.specs.declared.place.TopSize.{TopSize}
use Rattle.zio_types.specs.Places.{SamePlaces, are_apart, end_of, is_aligned, is_below, is_free, is_inside, meets}
use Rattle.zio_places.specs.Ordered.{all_placed_in, is_same_place, without}
use Rattle.zio_places.specs.Spaces.{SpaceState, IsSound, is_on_top, used}
use Rattle.zio_places.proofs.PlaceLemmas.{Contains-cases, Contains-head, Contains-nothing, is_same_place-refl, is_same_place-true}
use Rattle.zio_places.proofs.SetLemmas.{all_placed-same, given_back-set}
use Rattle.zio_cksum.proofs.AllLemmas.{all_append, all_contains}
use Rattle.zio_places.proofs.CountLemmas.{places-at}
use Rattle.zio_blocks.specs.Choosers.{AreHeld, AreLeft}
use Rattle.zio_cksum.proofs.PlaceSets.{SamePlaces-append, SamePlaces-then, all_pass}

-- ---- places apart

pub apart_left : (xs ys : List Place) → are_apart (xs ++ ys) ≡ true → are_apart xs ≡ true
apart_left [] ys h = refl
apart_left (x ∷ xs) ys h =
    let parts = and_parts (is_free (xs ++ ys) x) (are_apart (xs ++ ys)) h in
    let free = and_parts (is_free xs x) (is_free ys x) (sym (list_all-append (λ q. not (meets x q)) xs ys) ∙ parts.0) in
    and_from (is_free xs x) (are_apart xs) free.0 (apart_left xs ys parts.1)

-- what a sound space holds
pub held_sound : (st : SpaceState) → IsSound st → AreHeld st.sizes (used st) st.live
held_sound st sound = record {
  inside = sound.inside;
  apart = sound.apart;
  live_apart = apart_left st.live st.pending sound.apart;
  among = λ p there. Contains-append_left st.live st.pending p there;
}

pub sound_held : (st : SpaceState) → AreHeld st.sizes (used st) st.live → IsSound st
sound_held st held = record { inside = held.inside; apart = held.apart }

-- ---- places that are given back

only : (x p : Place) → Contains (x ∷ []) p → x ≡ p
only x p h = elim (Contains-cases x p [] h) [ inl is ↦ is | inr later ↦ absurd (Contains-nothing p later) ]

pub left_none : (held : List Place) → AreLeft held [] held
left_none held p = (λ there. (there, λ no. Contains-nothing p no), λ both. both.0)

pub left_more : (held given mid new : List Place) (p : Place) → AreLeft held given mid → ((q : Place) → Contains new q ↔ (Contains mid q × (q ≢ p))) → AreLeft held (given ++ p ∷ []) new
left_more held given mid new p before step q = (
  (λ there.
      let here = (step q).0 there in
      let was = (before q).0 here.0 in
      (was.0, λ among. elim (Contains-append_cases given (p ∷ []) q among) [ inl x ↦ was.1 x | inr y ↦ here.1 (sym (only p q y)) ])),
  (λ both.
      (step q).1 (
        (before q).1 (both.0, λ x. both.1 (Contains-append_left given (p ∷ []) q x)),
        λ same. both.1 (Contains-append_right given (p ∷ []) q (subst (λ x. Contains (p ∷ []) x) (sym same) (Contains-head p []))),
      )),
)

back_by : (live pending : List Place) (p q : Place) (t : Bool) → is_same_place p q ≡ t → Contains live q → ((q ≢ p) → Contains (without p live) q) → Contains (without p live ++ (pending ++ p ∷ [])) q
back_by live pending p q true same there other =
    Contains-append_right (without p live) (pending ++ p ∷ []) q
    (Contains-append_right pending (p ∷ []) q (subst (λ x. Contains (p ∷ []) x) (is_same_place-true p q same) (Contains-head p [])))
back_by live pending p q false same there other =
    Contains-append_left (without p live) (pending ++ p ∷ []) q (other (λ e. false≢true (sym same ∙ ap (is_same_place p) e ∙ itself p)))
  where
    itself : (p : Place) → is_same_place p p ≡ true
    itself p = is_same_place-refl p

-- a place that is given back is in use still
pub used_kept : (old new : SpaceState) (p : Place) → IsSound old → Contains old.live p → new.live ≡ without p old.live → new.pending ≡ old.pending ++ p ∷ [] → SamePlaces (used new) (used old)
used_kept old new p sound there live pending q =
    let set = given_back-set old sound p q there in
    let is : used new ≡ without p old.live ++ (old.pending ++ p ∷ []) = λ j. live j ++ pending j in (
      (λ h. elim (Contains-append_cases (without p old.live) (old.pending ++ p ∷ []) q (subst (λ xs. Contains xs q) is h)) [
        | inl x ↦ Contains-append_left old.live old.pending q (set.0 x).0
        | inr y ↦ elim (Contains-append_cases old.pending (p ∷ []) q y) [
          | inl z ↦ Contains-append_right old.live old.pending q z
          | inr w ↦ Contains-append_left old.live old.pending q (subst (λ x. Contains old.live x) (only p q w) there)
        ]
      ]),
      (λ h. subst (λ xs. Contains xs q) (sym is) (elim (Contains-append_cases old.live old.pending q h) [
        | inl x ↦ back_by old.live old.pending p q (is_same_place p q) refl x (λ ne. set.1 (x, ne))
        | inr y ↦ Contains-append_right (without p old.live) (old.pending ++ p ∷ []) q (Contains-append_left old.pending (p ∷ []) q y)
      ])),
    )

-- a space after it took back some places
pub record GaveBack (start now : SpaceState) (given : List Place) : Type 0 where
  pub left : AreLeft start.live given now.live
  pub used_is : SamePlaces (used now) (used start)
  pub sizes_are : now.sizes ≡ start.sizes
  pub entries_are : now.entries ≡ start.entries
  pub held : AreHeld start.sizes (used start) start.live → AreHeld now.sizes (used now) now.live
  pub filled : AllByRecursion (λ (p : Place). 0 < p.sectors) given

pub gave_none : (st : SpaceState) → GaveBack st st []
gave_none st = record {
  left = left_none st.live;
  used_is = λ p. (λ h. h, λ h. h);
  sizes_are = refl;
  entries_are = refl;
  held = λ h. h;
  filled = tt;
}

below_filled : (p : Place) (sizes : List TopSize) (top : ℕ) → is_below p (slice_get sizes top) ≡ true → 0 < p.sectors
below_filled p [] top h = absurd (false≢true h)
below_filled p (t ∷ sizes) zero h = ltb-true 0 p.sectors (and_parts (nat_lt 0 p.sectors) (nat_le (end_of p) t.sectors) h).0
below_filled p (t ∷ sizes) (suc top) h = below_filled p sizes top h

test_of : (test : Place → Bool) (xs : List Place) (p : Place) → list_all test xs ≡ true → Contains xs p → test p ≡ true
test_of test xs p h there = all_contains (λ q. test q ≡ true) xs p (all_pass test xs h) there

-- a live place of a sound space has sectors
live_filled : (st : SpaceState) (p : Place) → IsSound st → Contains st.live p → 0 < p.sectors
live_filled st p sound there =
    let on = test_of (is_on_top st.sizes) (used st) p sound.inside (Contains-append_left st.live st.pending p there) in
    below_filled p st.sizes p.top (and_parts (is_inside st.sizes p) (is_aligned st.sizes p) on).0

pub gave_more : (start now new : SpaceState) (given : List Place) (p : Place) → GaveBack start now given → IsSound now → Contains now.live p
    → new.live ≡ without p now.live → new.pending ≡ now.pending ++ p ∷ [] → new.sizes ≡ now.sizes → new.entries ≡ now.entries → IsSound new
    → GaveBack start new (given ++ p ∷ [])
gave_more start now new given p before sound there live pending sizes entries after =
    record {
      left = left_more start.live given now.live new.live p before.left
          (λ q. subst (λ xs. Contains xs q ↔ (Contains now.live q × (q ≢ p))) (sym live) (given_back-set now sound p q there));
      used_is = SamePlaces-then (used new) (used now) (used start) (used_kept now new p sound there live pending) before.used_is;
      sizes_are = sizes ∙ before.sizes_are;
      entries_are = entries ∙ before.entries_are;
      held = λ h. held_sound new after;
      filled = all_append (λ (q : Place). 0 < q.sectors) given (p ∷ []) before.filled (live_filled now p sound there, tt);
    }

-- a place meets itself
itself_meets : (p : Place) → 0 < p.sectors → meets p p ≡ true
itself_meets p some =
    and_from (p.top == p.top) (nat_lt (max p.sector p.sector) (min (end_of p) (end_of p))) (eq-eqb p.top p.top refl)
    (lt-ltb (max p.sector p.sector) (min (end_of p) (end_of p)) (omega arith))

-- the next of some places that are apart isn't among those before it
not_before : (xs : List Place) (p : Place) (ys : List Place) → AllByRecursion (λ (q : Place). 0 < q.sectors) xs → are_apart (xs ++ p ∷ ys) ≡ true → ¬ Contains xs p
not_before [] p ys some h there = Contains-nothing p there
not_before (x ∷ xs) p ys some h there =
    let parts = and_parts (is_free (xs ++ p ∷ ys) x) (are_apart (xs ++ p ∷ ys)) h in
    elim (Contains-cases x p xs there) [
      | inl same ↦
          let mine : not (meets x p) ≡ true = test_of (λ q. not (meets x q)) (xs ++ p ∷ ys) p parts.0 (Contains-append_right xs (p ∷ ys) p (Contains-head p ys)) in
          let it : not (meets x x) ≡ true = subst (λ y. not (meets x y) ≡ true) (sym same) mine in
          false≢true (sym (ap not (itself_meets x some.0)) ∙ it)
      | inr later ↦ not_before xs p ys some.1 parts.1 later
    ]

read_any : (xs : List Place) (i : ℕ) (d e : Place) → i < length xs → get_or xs i d ≡ get_or xs i e
read_any [] i d e h = absurd (omega arith)
read_any (x ∷ xs) zero d e h = refl
read_any (x ∷ xs) (suc i) d e h = read_any xs i d e (omega arith)

-- the next place is live still
pub next_live : (start now : SpaceState) (places : List Place) (i : ℕ) (d : Place) → GaveBack start now (take i places) → i < length places
    → AllByRecursion (Contains start.live) places → are_apart places ≡ true → Contains now.live (get_or places i d)
next_live start now places i d before here live apart =
    let p = get_or places i d in
    let there : Contains start.live p = all_contains (Contains start.live) places p live (i, here, read_any places i p d here) in
    (before.left p).1 (there, not_before (take i places) p (drop (i + 1) places) before.filled (subst (λ xs. are_apart xs ≡ true) (places-at places i d here) apart))

-- ---- places that are taken

pub live_after : (old now new : SpaceState) (taken : List Place) → now.live ≡ old.live → new.live ≡ all_placed_in taken now.live → SamePlaces new.live (taken ++ old.live)
live_after old now new taken live placed =
    subst (λ (xs : List Place). SamePlaces new.live (taken ++ xs)) live
    (subst (λ (xs : List Place). SamePlaces xs (taken ++ now.live)) (sym placed) (all_placed-same taken now.live))

-- what is live changes, and what is pending stays
pub used_after : (old now new : SpaceState) (taken : List Place) → now.live ≡ old.live → now.pending ≡ old.pending → new.pending ≡ now.pending
    → new.live ≡ all_placed_in taken now.live → SamePlaces (used new) (taken ++ used old)
used_after old now new taken live pending kept placed =
    let more : SamePlaces (new.live ++ new.pending) ((taken ++ old.live) ++ new.pending) =
    SamePlaces-append new.live (taken ++ old.live) new.pending (live_after old now new taken live placed) in
    let pending_is : new.pending ≡ old.pending = kept ∙ pending in
    let list_is : (taken ++ old.live) ++ new.pending ≡ taken ++ used old =
    ap (λ (xs : List Place). (taken ++ old.live) ++ xs) pending_is ∙ append_assoc taken old.live old.pending in
    subst (λ (xs : List Place). SamePlaces (used new) xs) list_is more

-- Which places are live after some were placed and after one was taken out.
use Rattle.std.proofs.Common.{◌≡◌, ℕ, zero, suc, ◌<◌, ◌≤◌, ◌≢◌, List, [], ◌∷◌, ◌++◌, refl, sym, ap, ◌∙◌, arith}
use Rattle.std.specs.Prelude.{Bool, true, not, ◌↔◌, Contains, nat_lt, nat_le, slice_get}
use Rattle.std.proofs.Common.{inl, inr}
use Rattle.std.specs.List.{list_all}
use Rattle.std.proofs.lemmas.Bool.{cases_Bool, and_parts, and_from, false≢true, false_from_ne_true, ltb-true}
use Rattle.std.proofs.lemmas.List.Elements.{Contains-append_left}
use Rattle.std.proofs.lemmas.List.Folds.{list_all-append}
use Rattle.zio_types.specs.declared.place.Place.{Place}
use Rattle.zio_types.specs.declared.place.TopSize.{TopSize}
use Rattle.zio_types.specs.Places.{end_of, meets, is_below, is_inside, is_aligned, is_free, are_apart}
use Rattle.zio_places.specs.Ordered.{is_same_place, all_placed_in, without}
use Rattle.zio_places.specs.Spaces.{SpaceState, used, is_on_top, IsSound}
use Rattle.zio_types.specs.Places.{SamePlaces}
use Rattle.zio_places.specs.Tables.{covers, one_if, total, cover_count}
use Rattle.zio_places.proofs.PlaceLemmas.{total-append, covers-from, covers-parts, counts-from_is_free, total-contains, Contains-nothing, Contains-cases, contains-same, contains-place_count, place_count-contains, is_same_place-true}
use Rattle.zio_places.proofs.OrderLemmas.{total-all_placed, total-without}

pub all_placed-same : (places live : List Place) → SamePlaces (all_placed_in places live) (places ++ live)
all_placed-same places live p =
    let same : (f : Place → ℕ) → total f (all_placed_in places live) ≡ total f (places ++ live) = λ f. total-all_placed f places live ∙ sym (total-append f places live) in
    (contains-same (all_placed_in places live) (places ++ live) same p, contains-same (places ++ live) (all_placed_in places live) (λ f. sym (same f)) p)

-- places that are apart have no sector twice
counts-from_apart : (xs : List Place) (top sector : ℕ) → are_apart xs ≡ true → cover_count xs top sector ≤ 1
counts-from_apart [] top sector h = omega arith
counts-from_apart (x ∷ xs) top sector h =
    let parts = and_parts (is_free xs x) (are_apart xs) h in
    elim (cases_Bool (covers x top sector)) [
      | inl on ↦
          let one : one_if (covers x top sector) ≡ 1 = ap one_if on in
          let there = covers-parts x top sector on in
          let mine : covers x x.top sector ≡ true = covers-from x x.top sector refl there.from there.to in
          let none : cover_count xs x.top sector ≡ 0 = counts-from_is_free xs x sector parts.0 mine in
          omega (arith, one, none, ap (λ t. cover_count xs t sector) there.top)
      | inr off ↦
          let none : one_if (covers x top sector) ≡ 0 = ap one_if off in
          omega (arith, none, counts-from_apart xs top sector parts.1)
    ]

below-filled : (p : Place) (sizes : List TopSize) (top : ℕ) → is_below p (slice_get sizes top) ≡ true → 0 < p.sectors
below-filled p [] top h = absurd (false≢true h)
below-filled p (t ∷ sizes) zero h = ltb-true 0 p.sectors (and_parts (nat_lt 0 p.sectors) (nat_le (end_of p) t.sectors) h).0
below-filled p (t ∷ sizes) (suc top) h = below-filled p sizes top h

pub list_all-contains : (test : Place → Bool) (xs : List Place) (p : Place) → list_all test xs ≡ true → Contains xs p → test p ≡ true
list_all-contains test [] p h there = absurd (Contains-nothing p there)
list_all-contains test (x ∷ xs) p h there =
    let parts = and_parts (test x) (list_all test xs) h in
    elim (Contains-cases x p xs there) [
      | inl same ↦ ap test (sym same) ∙ parts.0
      | inr later ↦ list_all-contains test xs p parts.1 later
    ]

-- the place itself is live no more, and all others are
pub without-set : (xs : List Place) (p q : Place) → are_apart xs ≡ true → 0 < p.sectors → Contains xs p → Contains (without p xs) q ↔ (Contains xs q × (q ≢ p))
without-set xs p q apart filled among = (
  (λ there. (
    contains-place_count q xs (omega (arith, total-without (λ r. one_if (is_same_place q r)) p xs among, place_count-contains q (without p xs) there)),
    (λ same.
        let f : Place → ℕ = λ r. one_if (covers r p.top p.sector) in
        let one : f p ≡ 1 = ap one_if (covers-from p p.top p.sector refl (omega arith) (omega arith)) in
        let also : f q ≡ 1 = ap f same ∙ one in
        absurd (omega (arith, total-without f p xs among, one, also, total-contains f (without p xs) q there, counts-from_apart xs p.top p.sector apart))),
  )),
  (λ there.
      let other : one_if (is_same_place q p) ≡ 0 = ap one_if (false_from_ne_true (is_same_place q p) (λ on. there.1 (is_same_place-true q p on))) in
      contains-place_count q (without p xs) (omega (arith, total-without (λ r. one_if (is_same_place q r)) p xs among, other, place_count-contains q xs there.0))),
)

apart-front : (xs ys : List Place) → are_apart (xs ++ ys) ≡ true → are_apart xs ≡ true
apart-front [] ys h = refl
apart-front (x ∷ xs) ys h =
    let parts = and_parts (is_free (xs ++ ys) x) (are_apart (xs ++ ys)) h in
    let free = and_parts (is_free xs x) (is_free ys x) (sym (list_all-append (λ q. not (meets x q)) xs ys) ∙ parts.0) in
    and_from (is_free xs x) (are_apart xs) free.0 (apart-front xs ys parts.1)

pub given_back-set : (st : SpaceState) → IsSound st → (p q : Place) → Contains st.live p → Contains (without p st.live) q ↔ (Contains st.live q × (q ≢ p))
given_back-set st sound p q among =
    let on = list_all-contains (is_on_top st.sizes) (used st) p sound.inside (Contains-append_left st.live st.pending p among) in
    let inside = (and_parts (is_inside st.sizes p) (is_aligned st.sizes p) on).0 in
    without-set st.live p q (apart-front st.live st.pending sound.apart) (below-filled p st.sizes p.top inside) among

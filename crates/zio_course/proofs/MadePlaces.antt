-- Places of the blocks that requests made, one list of them after another, and in another order.
use Rattle.std.proofs.Common.{◌≡◌, ℕ, ◌+◌, List, [], ◌∷◌, ◌++◌, flat_map, true, refl, sym, ap, ◌∙◌, arith}
use Rattle.std.specs.Prelude.{Contains, IsPermutation, IsTrue}
use Rattle.std.specs.List.{list_all, sum_by}
use Rattle.std.proofs.lemmas.Grind.{flat_map-append}
use Rattle.std.proofs.lemmas.List.Sorted.{IsPermutation-sym, sum_by-IsPermutation}
use Rattle.std.proofs.lemmas.List.Sums.{sum_by-cons}
use Rattle.zio_types.specs.declared.place.Place.{Place}
use Rattle.zio_types.specs.declared.place.TopSize.{TopSize}
use Rattle.zio_types.specs.Places.{SamePlaces, are_open, is_inside}
use Rattle.zio_cksum.proofs.AllLemmas.{all_contained, all_contains, all_weaker}
use Rattle.zio_cksum.proofs.PlaceSets.{all_pass, pass_all}
use Rattle.zio_gang.specs.Trees.{tree_places}
use Rattle.zio_places.specs.Tables.{total}
use Rattle.zio_places.proofs.PlaceLemmas.{contains-same, total-append}
use Rattle.zio_course.specs.declared.runner.RequestEnd.{RequestEnd}
use Rattle.zio_course.specs.Runners.{made_places, made_trees}
use Rattle.zio_course.proofs.OpenPlaces.{open_sets}

pub made_append : (a b : List RequestEnd) → made_places (a ++ b) ≡ made_places a ++ made_places b
made_append a b = ap (flat_map tree_places) (flat_map-append _ a b) ∙ flat_map-append tree_places (made_trees a) (made_trees b)

-- ---- places that were made, in another order

abbrev made_by : RequestEnd → List Place
made_by f = made_places (f ∷ [])

made_total : (f : Place → ℕ) (fs : List RequestEnd) → total f (made_places fs) ≡ sum_by (λ (x : RequestEnd). total f (made_by x)) fs
made_total f [] = refl
made_total f (x ∷ fs) =
    ap (total f) (made_append (x ∷ []) fs) ∙ total-append f (made_by x) (made_places fs) ∙ ap (λ n. total f (made_by x) + n) (made_total f fs) ∙ sym (sum_by-cons (λ (y : RequestEnd). total f (made_by y)) x fs)

pub made_moved : (f : Place → ℕ) (xs ys : List RequestEnd) → IsPermutation xs ys → total f (made_places ys) ≡ total f (made_places xs)
made_moved f xs ys moved = made_total f ys ∙ sum_by-IsPermutation (λ (x : RequestEnd). total f (made_by x)) xs ys moved ∙ sym (made_total f xs)

made_there : (xs ys : List RequestEnd) (p : Place) → IsPermutation xs ys → Contains (made_places xs) p → Contains (made_places ys) p
made_there xs ys p moved c = contains-same (made_places xs) (made_places ys) (λ f. sym (made_moved f xs ys moved)) p c

pub made_same : (xs ys : List RequestEnd) → IsPermutation xs ys → SamePlaces (made_places xs) (made_places ys)
made_same xs ys moved p = (made_there xs ys p moved, made_there ys xs p (IsPermutation-sym xs ys moved))

pub made_open : (used live : List Place) (xs ys : List RequestEnd) → SamePlaces used live → IsPermutation xs ys → are_open used (made_places xs) ≡ true → are_open live (made_places ys) ≡ true
made_open used live xs ys same moved h =
    open_sets used live (made_places xs) (made_places ys) (λ p c. (same p).1 c) (λ p c. (made_same xs ys moved p).1 c) (λ f. (let e = made_moved f xs ys moved in omega arith)) h

pub made_inside : (tops : List TopSize) (xs ys : List RequestEnd) → IsPermutation xs ys → IsTrue (list_all (is_inside tops) (made_places xs)) → IsTrue (list_all (is_inside tops) (made_places ys))
made_inside tops xs ys moved h =
    pass_all (is_inside tops) (made_places ys)
    (all_weaker (Contains (made_places ys)) (λ p. IsTrue (is_inside tops p)) (made_places ys)
    (λ p c. all_contains (λ q. IsTrue (is_inside tops q)) (made_places xs) p (all_pass (is_inside tops) (made_places xs) h) ((made_same xs ys moved p).1 c)) (all_contained (made_places ys)))

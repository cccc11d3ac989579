-- Lists of places that sum to the same are the same in another order.
use Rattle.std.proofs.Common.{◌≡◌, ℕ, ◌+◌, List, [], ◌∷◌, ◌||◌, inl, inr, refl, sym, ap, subst, ◌∙◌, arith, ◌<◌, ◌≤◌}
use Rattle.std.specs.Prelude.{Bool, true, false, cond, Contains, IsPermutation}
use Rattle.std.specs.List.{list_any, sum_by}
use Rattle.std.proofs.lemmas.Bool.{false≢true}
use Rattle.std.proofs.lemmas.List.Sorted.{IsPermutation-cons, IsPermutation-refl, IsPermutation-trans, sum_by-IsPermutation}
use Rattle.std.proofs.lemmas.List.Sums.{sum_by-cons}
use Rattle.zio_types.specs.declared.place.Place.{Place}
use Rattle.zio_types.specs.Places.{SamePlaces}
use Rattle.zio_places.specs.Ordered.{is_same_place, without}
use Rattle.zio_places.specs.Tables.{total, one_if}
use Rattle.zio_places.proofs.OrderLemmas.{total-without}
use Rattle.zio_places.proofs.PlaceLemmas.{Contains-cases, Contains-head, Contains-nothing, contains-same, is_same_place-refl, is_same_place-true, contains-place_count, place_count, place_count-contains}
use Rattle.zio_frames.proofs.PermLemmas.{swap_two}
use Rattle.zio_turns.specs.Desks.{live_again}

abbrev pub SameTotals : List Place → List Place → Type 0
SameTotals xs ys = (f : Place → ℕ) → total f xs ≡ total f ys

pub same_by_totals : (xs ys : List Place) → SameTotals xs ys → SamePlaces xs ys
same_by_totals xs ys h p = (contains-same xs ys h p, contains-same ys xs (λ f. sym (h f)) p)

sum_is : (f : Place → ℕ) (xs : List Place) → sum_by f xs ≡ total f xs
sum_is f [] = refl
sum_is f (x ∷ xs) = sum_by-cons f x xs ∙ ap (λ n. f x + n) (sum_is f xs)

pub totals_moved : (xs ys : List Place) → IsPermutation xs ys → SameTotals xs ys
totals_moved xs ys p f = sym (sum_is f xs) ∙ (sym (sum_by-IsPermutation f xs ys p) ∙ sum_is f ys)

-- a place stands in a list that has it as often at least
pub contained : (xs ys : List Place) → ((w : Place → ℕ) → total w xs ≤ total w ys) → (p : Place) → Contains xs p → Contains ys p
contained xs ys h p c =
    let one : 0 < place_count p xs = place_count-contains p xs c in
    let more = h (λ (q : Place). one_if (is_same_place p q)) in
    contains-place_count p ys (omega arith)

-- ---- a place taken out

out_by : (p q : Place) (ys : List Place) (t : Bool) → is_same_place p q ≡ t → Contains (q ∷ ys) p
    → (Contains ys p → IsPermutation (p ∷ without p ys) ys) → IsPermutation (p ∷ cond t ys (q ∷ without p ys)) (q ∷ ys)
out_by p q ys true same there go = subst (λ (y : Place). IsPermutation (p ∷ ys) (y ∷ ys)) (is_same_place-true p q same)
    (IsPermutation-refl (p ∷ ys))
out_by p q ys false same there go =
    let later : Contains ys p = elim (Contains-cases q p ys there) [
      | inl is ↦ absurd (false≢true (sym same ∙ (ap (is_same_place p) is ∙ is_same_place-refl p)))
      | inr rest ↦ rest
    ] in
    IsPermutation-trans (p ∷ q ∷ without p ys) (q ∷ p ∷ without p ys) (q ∷ ys) (swap_two p q (without p ys))
    (IsPermutation-cons q (p ∷ without p ys) ys (go later))

pub without_moved : (p : Place) (ys : List Place) → Contains ys p → IsPermutation (p ∷ without p ys) ys
without_moved p [] there = absurd (Contains-nothing p there)
without_moved p (q ∷ ys) there = out_by p q ys (is_same_place p q) refl there (without_moved p ys)

pub moved_by_totals : (xs ys : List Place) → SameTotals xs ys → IsPermutation xs ys
moved_by_totals [] [] h = IsPermutation-refl []
moved_by_totals [] (y ∷ ys) h = absurd (omega (arith, h (λ p. 1)))
moved_by_totals (x ∷ xs) ys h =
    let there : Contains ys x = contains-same (x ∷ xs) ys h x (Contains-head x xs) in
    let rest : SameTotals xs (without x ys) = λ f. omega (arith, h f, total-without f x ys there) in
    IsPermutation-trans (x ∷ xs) (x ∷ without x ys) ys (IsPermutation-cons x xs (without x ys)
    (moved_by_totals xs (without x ys) rest))
    (without_moved x ys there)

-- ---- a place given back

again_by : (f : Place → ℕ) (p q : Place) (live : List Place) (t : Bool) → is_same_place p q ≡ t
    → total f (without p live) + total f (live_again p live) ≡ total f live
    → total f (cond t live (q ∷ without p live)) + total f (cond (t || list_any (is_same_place p) live) (p ∷ []) []) ≡ total f
    (q ∷ live)
again_by f p q live true same h = omega (arith, ap f (is_same_place-true p q same))
again_by f p q live false same h = omega (arith, h)

-- whether it is live or not
pub again_total : (f : Place → ℕ) (p : Place) (live : List Place) → total f (without p live) + total f
    (live_again p live) ≡ total f live
again_total f p [] = refl
again_total f p (q ∷ live) = again_by f p q live (is_same_place p q) refl (again_total f p live)

-- Which places are in use after a round.
use Rattle.std.proofs.Common.{◌≡◌, ℕ, ◌+◌, ◌<◌, List, [], ◌∷◌, ◌++◌, true, ◌⊎◌, inl, inr, refl, sym, ap, ◌∙◌, arith}
use Rattle.std.specs.Prelude.{Contains, IsPermutation, IsTrue, ◌↔◌}
use Rattle.std.specs.List.{list_all, sum_by}
use Rattle.std.proofs.lemmas.Bool.{and_parts}
use Rattle.std.proofs.lemmas.List.Elements.{Contains-append_cases, Contains-append_left, Contains-append_right}
use Rattle.std.proofs.lemmas.List.Sorted.{IsPermutation-sym, sum_by-IsPermutation}
use Rattle.std.proofs.lemmas.List.Sums.{sum_by-cons}
use Rattle.zio_types.specs.declared.place.Place.{Place}
use Rattle.zio_types.specs.declared.place.TopSize.{TopSize}
use Rattle.zio_types.specs.Places.{SamePlaces, are_apart, are_open, is_free, is_inside}
use Rattle.zio_cksum.proofs.AllLemmas.{all_contained, all_contains, all_weaker}
use Rattle.zio_places.specs.Tables.{total}
use Rattle.zio_places.proofs.PlaceLemmas.{contains-same, total-append}
use Rattle.zio_blocks.specs.Choosers.{AreLeft}
use Rattle.zio_cksum.proofs.PlaceSets.{all_pass, pass_all}
use Rattle.zio_course.specs.declared.runner.RequestEnd.{RequestEnd}
use Rattle.zio_course.specs.Runners.{made_places}
use Rattle.zio_course.proofs.OpenPlaces.{inside_some, not_itself, open_sets}

-- ---- after the round

-- places that came to stay weren't in use
stay_new : (tops : List TopSize) (used stay : List Place) (p : Place) → IsTrue (list_all (is_inside tops) stay) → are_open used stay ≡ true → Contains stay p → Contains used p → ⊥
stay_new tops used stay p inside opened there used_there =
    let some : 0 < p.sectors = inside_some tops p (all_contains (λ q. IsTrue (is_inside tops q)) stay p (all_pass (is_inside tops) stay inside) there) in
    let free : is_free used p ≡ true =
    all_contains (λ q. IsTrue (is_free used q)) stay p (all_pass (is_free used) stay (and_parts (list_all (is_free used) stay) (are_apart stay) opened).0) there in
    not_itself used p some used_there free

-- live are the places that were and weren't given back, and those that came to stay
pub live_after : (tops : List TopSize) (used live mid last stay freed given made : List Place) → SamePlaces used live → SamePlaces mid (stay ++ live) → AreLeft mid freed last
    → IsTrue (list_all (is_inside tops) stay) → are_open used stay ≡ true → ((p : Place) → Contains freed p → Contains live p) → SamePlaces freed given → SamePlaces stay made
    → (p : Place) → Contains last p ↔ ((Contains live p × ¬ Contains given p) ⊎ Contains made p)
live_after tops used live mid last stay freed given made same lives left inside opened among given_same made_is p =
    (λ c. forth ((left p).0 c), λ c. (left p).1 (back c))
  where
    forth : Contains mid p × ¬ Contains freed p → (Contains live p × ¬ Contains given p) ⊎ Contains made p
    forth h = which (Contains-append_cases stay live p ((lives p).0 h.0))
      where
        which : Contains stay p ⊎ Contains live p → (Contains live p × ¬ Contains given p) ⊎ Contains made p
        which (inl new) = inr ((made_is p).0 new)
        which (inr old) = inl (old, λ g. h.1 ((given_same p).1 g))

    back : (Contains live p × ¬ Contains given p) ⊎ Contains made p → Contains mid p × ¬ Contains freed p
    back (inl h) = ((lives p).1 (Contains-append_right stay live p h.0), λ f. h.1 ((given_same p).0 f))
    back (inr new) =
        let there = (made_is p).1 new in
        ((lives p).1 (Contains-append_left stay live p there), λ f. stay_new tops used stay p inside opened there ((same p).1 (among p f)))

-- What a list doesn't contain.
use Rattle.std.proofs.Common.{◌≡◌, List, [], ◌∷◌, Bool, true, false, Contains}
use Rattle.std.proofs.lemmas.Bool.{both_ways, or_parts}
use Rattle.std.proofs.lemmas.List.Elements.{All-contains, All-from_recursion}
use Rattle.std.specs.List.{AllByRecursion, list_any}

none_passes : {X : Type 0} (test : X → Bool) (xs : List X) → list_any test xs ≡ false → AllByRecursion (λ y. test y ≡ false) xs
none_passes test [] e = tt
none_passes test (x ∷ xs) e = let parts = or_parts (test x) _ e in (parts.0, none_passes test xs parts.1)

-- it passes a test that no element passes
pub not_contained : {X : Type 0} (test : X → Bool) (xs : List X) (x : X) → list_any test xs ≡ false → test x ≡ true → ¬ Contains xs x
not_contained test xs x e here c =
    both_ways (test x) (All-contains (λ y. test y ≡ false) xs x (All-from_recursion _ xs (none_passes test xs e)) c) here

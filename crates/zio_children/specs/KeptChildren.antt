-- Children that finished, by number: new ones at their places among those that were kept.
use Rattle.std.specs.Prelude.{◌≡◌, ℕ, ◌<◌, ◌≤◌, List, [], ◌∷◌, ◌++◌, map}
use Rattle.std.specs.List.{AllByRecursion}
use Rattle.zio_gang.specs.ByNumber.{merge_by}
use Rattle.zio_children.specs.declared.kept.KeptChild.{KeptChild}

abbrev pub numbers_in : List KeptChild → List ℕ
numbers_in children = map (λ (k : KeptChild). k.number) children

-- children at their places by number
abbrev pub merged : List KeptChild → List KeptChild → List KeptChild
merged new kept = merge_by (λ (k : KeptChild). k.number) new kept

-- the first child has this number or a higher one
abbrev pub IsPast : ℕ → List KeptChild → Type 0
IsPast n [] = Unit {0}
IsPast n (k ∷ ks) = n ≤ k.number

-- children at the front whose numbers are below this one, up to the first that hasn't
pub record IsSplitAt (n : ℕ) (children front rest : List KeptChild) : Type 0 where
  pub joined : children ≡ front ++ rest
  pub low : AllByRecursion (λ (k : KeptChild). k.number < n) front
  pub stop : IsPast n rest

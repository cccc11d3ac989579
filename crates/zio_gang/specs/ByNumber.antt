-- Lists in the order of numbers.
use Rattle.std.specs.Prelude.{ℕ, List, [], ◌∷◌, Bool, true, false, nat_le}

abbrev pub insert_if : {X : Type 0} → Bool → X → X → List X → List X → List X
insert_if true x y ys inserted = x ∷ y ∷ ys
insert_if false x y ys inserted = y ∷ inserted

-- an item at its place, before those of its number or a higher one
abbrev pub insert_by : {X : Type 0} → (X → ℕ) → X → List X → List X
insert_by number x [] = x ∷ []
insert_by number x (y ∷ ys) = insert_if (nat_le (number x) (number y)) x y ys (insert_by number x ys)

-- the items of the first list at their places in the second, which is in order
abbrev pub merge_by : {X : Type 0} → (X → ℕ) → List X → List X → List X
merge_by number [] ys = ys
merge_by number (x ∷ xs) ys = insert_by number x (merge_by number xs ys)

-- What a table of places holds.
use Rattle.std.specs.Prelude.{◌≡◌, ℕ, ◌≤◌, List, [], ◌∷◌, drop, length, Option, Some, None}
use Rattle.zio_turns.specs.LineSums.{AreSums, places_of}

-- the values that stand at places, in the order of the places
abbrev pub standing : List (Option ℕ) → List ℕ
standing [] = []
standing (None ∷ places) = standing places
standing (Some value ∷ places) = value ∷ standing places

-- 1 for each place where a value stands, 0 for each other
abbrev pub marks : List (Option ℕ) → List ℕ
marks [] = []
marks (None ∷ places) = 0 ∷ marks places
marks (Some value ∷ places) = 1 ∷ marks places

-- what a contract sees of a table: the values that wait, how many places it has, and how many of them were used
pub record Held : Type 0 where
  pub waiting : List ℕ
  pub size : ℕ
  pub used : ℕ

-- the sums are those of the marks, and no value stands at a place that was not used
pub record IsKept (nodes : List ℕ) (places : List (Option ℕ)) (used : ℕ) : Type 0 where
  pub sums : AreSums nodes
  pub marked : places_of nodes ≡ marks places
  pub fits : used ≤ length places
  pub unused : standing (drop used places) ≡ []

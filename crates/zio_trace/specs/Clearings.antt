-- Why deeds stand in order: what nodes in flight may still do is apart from what was done behind it.
use Rattle.std.specs.Prelude.{◌≡◌, ℕ, ◌<◌, List, [], ◌∷◌}
use Rattle.std.specs.List.{AllByRecursion}
use Rattle.zio_trace.specs.Programs.{Deed}
use Rattle.zio_trace.specs.Labels.{Labelled, Earlier, IsIn}

-- a node in flight: its operation, and the number of the next that it hands out
pub record Seat (Op : Type 0) : Type 0 where
  pub op : Labelled Op
  pub next : ℕ

-- which deeds an operation may do, and which of them may pass which
pub record Reach (Op : Type 0) : Type 1 where
  pub Stays : Labelled Op → Labelled Op → Type 0
  pub Passes : Labelled Op → Labelled Op → Type 0

-- the deed may pass all that the operation may do
abbrev pub Away : {Op : Type 0} → Reach Op → Labelled Op → Labelled Op → Type 0
Away {Op} r op d = (b : Labelled Op) → r.Stays op b → r.Passes d b

-- all that the second may do may pass all that the first may do
abbrev pub Free : {Op : Type 0} → Reach Op → Labelled Op → Labelled Op → Type 0
Free {Op} r op later = (d : Labelled Op) → r.Stays later d → Away r op d

abbrev pub FreeOf : {Op : Type 0} → Reach Op → Seat Op → Seat Op → Type 0
FreeOf r s q = Earlier s.op q.op → Free r s.op q.op

-- what stands within it has a number that was handed out
abbrev pub Holds : {Op : Type 0} → Seat Op → List ℕ → Type 0
Holds s x = (n : ℕ) (below : List ℕ) → IsIn s.op.at n below x → n < s.next

abbrev pub AllPairs : {X : Type 0} → (X → X → Type 0) → List X → Type 0
AllPairs {X} R xs = AllByRecursion (λ (x : X). AllByRecursion (R x) xs) xs

abbrev pub Differ : {Op : Type 0} → List (Seat Op) → Type 0
Differ [] = Unit {0}
Differ {Op} (s ∷ ss) = AllByRecursion (λ (q : Seat Op). s.op.at ≡ q.op.at → ⊥) ss × Differ ss

pub record AreClear {Op Ans : Type 0} (r : Reach Op) (ds : List (Deed (Labelled Op) Ans)) (seats : List (Seat Op)) : Type 0 where
  pub clear : AllByRecursion (λ (s : Seat Op). AllByRecursion (λ (e : Deed (Labelled Op) Ans). Earlier s.op e.op → Away r s.op e.op) ds) seats
  pub done : AllByRecursion (λ (s : Seat Op). AllByRecursion (λ (e : Deed (Labelled Op) Ans). Holds s e.op.at) ds) seats
  pub free : AllPairs (FreeOf r) seats
  pub flying : AllPairs (λ (s q : Seat Op). Holds s q.op.at) seats
  pub differ : Differ seats

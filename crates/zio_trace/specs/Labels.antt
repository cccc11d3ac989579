-- Operations with their places in the work: of a program's operations the nth, under the place of the part whose plan it is.
use Rattle.std.specs.Prelude.{◌≡◌, ℕ, zero, suc, ◌<◌, ◌≤◌, Bool, true, false, cond, List, [], ◌∷◌, ◌++◌, ◌⊎◌}
use Rattle.zio_trace.specs.Oracles.{Ways}
use Rattle.zio_trace.specs.Programs.{Meaning, Program, Ends, Asks}

pub record Labelled (Op : Type 0) : Type 0 where
  pub at : List ℕ
  pub op : Op

abbrev pub labelled : {Op Ans A : Type 0} → List ℕ → ℕ → Program Op Ans A → Program (Labelled Op) Ans A
labelled at n (Ends a) = Ends a
labelled at n (Asks op more) = Asks (record { at = at ++ n ∷ []; op = op }) (λ answer. labelled at (suc n) (more answer))

abbrev pub ways_at : {Op Ans : Type 0} → Ways Op Ans → Ways (Labelled Op) Ans
ways_at ways = record { plan = λ x. labelled x.at 0 (ways.plan x.op); single = λ x. ways.single x.op; Fits = λ x. ways.Fits x.op }

abbrev pub means_at : {Op Ans : Type 0} → Meaning Op Ans → Meaning (Labelled Op) Ans
means_at means x images = means x.op images

-- by the first number that differs; no place is below one within it
abbrev pub Below : List ℕ → List ℕ → Type 0
Below [] [] = ⊥
Below [] (n ∷ ns) = ⊥
Below (m ∷ ms) [] = ⊥
Below (m ∷ ms) (n ∷ ns) = (m < n) ⊎ ((m ≡ n) × Below ms ns)

abbrev pub Earlier : {Op : Type 0} → Labelled Op → Labelled Op → Type 0
Earlier x y = Below x.at y.at

-- in a part of the place, from its nth operation on
pub record IsUnder (at : List ℕ) (n : ℕ) (x : List ℕ) : Type 0 where
  pub number : ℕ
  pub below : List ℕ
  pub from : n ≤ number
  pub is : x ≡ at ++ number ∷ below

abbrev pub same_number : ℕ → ℕ → Bool
same_number zero zero = true
same_number zero (suc n) = false
same_number (suc m) zero = false
same_number (suc m) (suc n) = same_number m n

abbrev pub same_at : List ℕ → List ℕ → Bool
same_at [] [] = true
same_at [] (n ∷ ns) = false
same_at (m ∷ ms) [] = false
same_at (m ∷ ms) (n ∷ ns) = cond (same_number m n) (same_at ms ns) false

abbrev pub same_place : {Op : Type 0} → Labelled Op → Labelled Op → Bool
same_place x y = same_at x.at y.at

-- this is in a part of the place
abbrev pub IsIn : List ℕ → ℕ → List ℕ → List ℕ → Type 0
IsIn at n below x = x ≡ at ++ n ∷ below

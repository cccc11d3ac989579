-- What the code shows of a node, and how it stands for one in flight.
use Rattle.std.specs.Prelude.{◌≡◌, ℕ, zero, suc, List, [], ◌∷◌, Option, Some, None}
use Rattle.zio_trace.specs.Programs.{Program, Ends, Asks}
use Rattle.zio_trace.specs.Calls.{FitsEarly}
use Rattle.zio_trace.specs.Oracles.{Oracle}
use Rattle.zio_trace.specs.Labels.{Labelled, labelled}

-- without places
abbrev pub bare : {Op Ans A : Type 0} → Program (Labelled Op) Ans A → Program Op Ans A
bare (Ends a) = Ends a
bare (Asks x more) = Asks x.op (λ answer. bare (more answer))

-- what is left behind the first n
abbrev pub left_behind : {Op Ans A : Type 0} → Oracle Op Ans → ℕ → Program Op Ans A → Program Op Ans A
left_behind o zero p = p
left_behind o (suc n) (Ends a) = Ends a
left_behind o (suc n) (Asks op more) = left_behind o n (more (o.answer op))

-- behind those that are out, the operations have numbers from this on
abbrev pub NumberedFrom : {Op Ans A : Type 0} → List ℕ → ℕ → Program (Labelled Op) Ans A → Type 0
NumberedFrom {Op} {Ans} {A} at n p = (q : Program Op Ans A) × (p ≡ labelled at n q)

-- the calls that are out: the number of each, its operation, and what it told of its value before it ended
pub record Out (Op Early : Type 0) : Type 0 where
  pub number : ℕ
  pub op : Labelled Op
  pub told : Option Early

-- they stand first in the program, in their order
abbrev pub StandFirst : {Op Ans Early A : Type 0} → Oracle (Labelled Op) Ans → List (Out Op Early) → Program (Labelled Op) Ans A → Type 0
StandFirst o [] p = Unit {0}
StandFirst o (c ∷ cs) (Ends a) = ⊥
StandFirst o (c ∷ cs) (Asks x more) = (x ≡ c.op) × StandFirst o cs (more (o.answer x))

-- what those that are out told early is true
abbrev pub ToldTrue : {Op Ans Early A : Type 0} → (Ans → Early) → Oracle Op Ans → List (Option Early) → Program Op Ans A → Type 0
ToldTrue early o [] p = Unit {0}
ToldTrue early o (r ∷ rs) (Ends a) = Unit {0}
ToldTrue early o (r ∷ rs) (Asks x more) = FitsEarly early r (o.answer x) × ToldTrue early o rs (more (o.answer x))

-- the nth goes
abbrev pub without : {X : Type 0} → ℕ → List X → List X
without n [] = []
without zero (x ∷ xs) = xs
without (suc n) (x ∷ xs) = x ∷ without n xs

abbrev pub nth : {X : Type 0} → ℕ → List X → Option X
nth n [] = None
nth zero (x ∷ xs) = Some x
nth (suc n) (x ∷ xs) = nth n xs

-- the nth told this
abbrev pub telling : {Op Early : Type 0} → ℕ → Early → List (Out Op Early) → List (Out Op Early)
telling n r [] = []
telling zero r (c ∷ cs) = record { number = c.number; op = c.op; told = Some r } ∷ cs
telling (suc n) r (c ∷ cs) = c ∷ telling n r cs

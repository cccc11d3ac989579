-- A program some of whose operations are out: what it asks behind them, and an answer that is put in.
use Rattle.std.specs.Prelude.{◌≡◌, ℕ, zero, suc, List, [], ◌∷◌, Option, Some, None}
use Rattle.zio_trace.specs.Programs.{Program, Ends, Asks}

-- what a call that is out told early is a part of its answer
abbrev pub FitsEarly : {Ans Early : Type 0} → (Ans → Early) → Option Early → Ans → Type 0
FitsEarly early None answer = Unit {0}
FitsEarly early (Some r) answer = early answer ≡ r

-- the operation that the program asks behind those that are out, whatever these are answered
abbrev pub NextIs : {Op Ans Early A : Type 0} → (Ans → Early) → List (Option Early) → Program Op Ans A → Op → Type 0
NextIs early outs (Ends a) op = ⊥
NextIs early [] (Asks next more) op = next ≡ op
NextIs {Op} {Ans} early (r ∷ outs) (Asks next more) op = (answer : Ans) → FitsEarly early r answer → NextIs early outs (more answer) op

-- the program with the answer of its nth operation put in
abbrev pub answered_at : {Op Ans A : Type 0} → ℕ → Ans → Program Op Ans A → Program Op Ans A
answered_at n answer (Ends a) = Ends a
answered_at zero answer (Asks op more) = more answer
answered_at (suc n) answer (Asks op more) = Asks op (λ first. answered_at n answer (more first))

-- A program of leaf operations some of whose first operations have their answers, while others of these are out.
use Rattle.std.specs.Prelude.{ℕ, zero, suc, List, [], ◌∷◌, Option, Some, None}
use Rattle.zio_trace.specs.Calls.{NextIs}
use Rattle.zio_trace.specs.CopyPrograms.{Program}
use Rattle.zio_trace.specs.Leaves.{LeafOp, Answer}
use Rattle.zio_trace.specs.Programs.{Ends, Asks}

-- each of the first operations has this answer, or is out
abbrev pub filled : {A : Type 0} → List (Option Answer) → Program A → Program A
filled [] p = p
filled (a ∷ answers) (Ends v) = Ends v
filled (Some v ∷ answers) (Asks op more) = filled answers (more v)
filled (None ∷ answers) (Asks op more) = Asks op (λ v. filled answers (more v))

-- how many are out
abbrev pub out_count : List (Option Answer) → ℕ
out_count [] = 0
out_count (Some v ∷ answers) = out_count answers
out_count (None ∷ answers) = suc (out_count answers)

-- how many of the first n are out
abbrev pub out_before : ℕ → List (Option Answer) → ℕ
out_before zero answers = 0
out_before (suc n) [] = 0
out_before (suc n) (Some v ∷ answers) = out_before n answers
out_before (suc n) (None ∷ answers) = suc (out_before n answers)

-- nothing is told before its answer
abbrev pub untold : ℕ → List (Option Answer)
untold zero = []
untold (suc n) = None ∷ untold n

-- the operation that the program asks behind its first n, whatever these are answered
abbrev pub AsksBehind : {A : Type 0} → ℕ → Program A → LeafOp → Type 0
AsksBehind n p op = NextIs (λ (answer : Answer). answer) (untold n) p op

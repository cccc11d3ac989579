-- How often a task may ask for a key.
use Rattle.std.specs.Prelude.{ℕ, ◌+◌, ◌≤◌, cond, Bool, true, false, List, [], ◌∷◌}
use Rattle.zio_types.specs.declared.journal.Key.{Key}
use Rattle.zio_types.specs.Choices.{Ask, same_key}
use Rattle.zio_trace.specs.Families.{Forest, NoTrees, TreeOf}
use Rattle.zio_trace.specs.Labels.{same_number}
use Rattle.zio_trace.specs.Programs.{Program, Ends, Asks}
use Rattle.zio_trace.specs.Tasks.{Task, Find, WritePart, Attempt, Settle, Value, attempted}

abbrev pub bit : Bool → ℕ
bit true = 1
bit false = 0

-- one where the ask is for the key
abbrev pub key_weight : Key → Ask → ℕ
key_weight k a = bit (same_key a.key k)

-- so many where the numbers are the same
abbrev pub if_same : ℕ → ℕ → ℕ → ℕ
if_same m n k = cond (same_number m n) k 0

-- the first is a front of the second
abbrev pub starts : List ℕ → List ℕ → Bool
starts [] ys = true
starts (x ∷ xs) [] = false
starts (x ∷ xs) (y ∷ ys) = cond (same_number x y) (starts xs ys) false

-- how many requests have the number
abbrev pub count_in : ℕ → Forest → ℕ
count_in n NoTrees = 0
count_in n (TreeOf p kids others) = bit (same_number p.request.number n) + (count_in n kids + count_in n others)

abbrev pub cap : Key → Task → ℕ
cap k (Find a) = bit (same_key a.key k)
cap k (WritePart attempt p sum copies levels path bytes) = if_same p.request.number k.request (if_same attempt k.attempt (bit (starts path k.path)))
cap k (Attempt attempt p kids) = if_same attempt k.attempt (bit (same_number p.request.number k.request) + count_in k.request kids)
cap k (Settle p kids) = bit (same_number p.request.number k.request) + count_in k.request kids
cap k _ = 0

-- an attempt leaves no request that it hadn't
abbrev pub FitsLeft : Task → Value → Type 0
FitsLeft (Attempt attempt p kids) v = (n : ℕ) → count_in n (attempted v).left ≤ bit (same_number p.request.number n) + count_in n kids
FitsLeft _ v = Unit {0}

-- whatever fitting answers come, the program asks so much at most, and ends so
abbrev pub Capped : {Op Ans A : Type 0} → (Op → Ans → Type 0) → (Op → ℕ) → (A → Type 0) → ℕ → Program Op Ans A → Type 0
Capped Fits most Q n (Ends a) = Q a
Capped {Op} {Ans} Fits most Q n (Asks op more) = (rest : ℕ) × (most op + rest ≤ n) × ((answer : Ans) → Fits op answer → Capped Fits most Q rest (more answer))

-- no two requests have one number
abbrev pub NumbersOnce : Forest → Type 0
NumbersOnce f = (n : ℕ) → count_in n f ≤ 1

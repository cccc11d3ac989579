-- What is known of the tasks of one queue: what each pass put into it and took out of it, and the one order in which all of them stand.
use Rattle.std.specs.Prelude.{Bool, ◌≡◌, ℕ, ◌+◌, ◌<◌, ◌≤◌, cond, eqb, List, [], ◌∷◌, ◌++◌, map, length, All, Contains}
pub use Rattle.zio_types.specs.Totals.{total}
use Rattle.zio_tasks.specs.declared.hand.Hand.{Hand}

-- what the pass of this number put, and what it took, each with the number of the pass that put it
abbrev pub hand : {T : Type 0} → ℕ → List T → List (ℕ × T) → Hand T
hand number puts takes = record { number = number; puts = puts; takes = takes }

-- what stands beside the number k, in order
abbrev pub of : {A : Type 0} → ℕ → List (ℕ × A) → List A
of k [] = []
of k (x ∷ xs) = cond (eqb k x.0) (x.1 ∷ of k xs) (of k xs)

-- what was taken, each task with the pass that put it
abbrev pub taken : {A : Type 0} → List (ℕ × A) → List A
taken = map (λ x. x.1)

module _ {T : Type 0} where
  -- 1 for the hand of the number k
  abbrev pub is_number : ℕ → Hand T → ℕ
  is_number k h = cond (eqb k h.number) 1 0

  -- how much the hand's puts weigh, and its takes
  abbrev pub put_weight : (T → ℕ) → Hand T → ℕ
  put_weight w h = total w h.puts

  abbrev pub take_weight : (T → ℕ) → Hand T → ℕ
  take_weight w h = total w (taken h.takes)

  -- A pass put what stands beside its number in the queue's order, and it took what stands beside its number among the takes
  pub record Fits (passes : ℕ) (log : List (ℕ × (ℕ × T))) (rest : List (ℕ × T)) (h : Hand T) : Type 0 where
    pub known : h.number < passes
    pub puts : h.puts ≡ of h.number (taken log ++ rest)
    pub takes : h.takes ≡ of h.number log

  -- The hands are those of all passes. In the order of putting stand first the tasks of the log, each with the pass that took it and the
  -- pass that put it, and then the rest, which the queue holds, each with the pass that put it
  pub record Stands (passes : ℕ) (hands : List (Hand T)) (log : List (ℕ × (ℕ × T))) (rest : List (ℕ × T)) : Type 0 where
    pub counted : total (λ (h : Hand T). 1) hands ≡ passes
    pub once : (k : ℕ) → total (is_number k) hands ≤ 1
    pub each : All (Fits passes log rest) hands
    pub strangers : (k : ℕ) → passes ≤ k → (of k (taken log ++ rest) ≡ []) × (of k log ≡ [])
    pub weighed : (w : T → ℕ) → total (put_weight w) hands ≡ total (take_weight w) hands + total w (taken rest)

  -- in such a state, in which the pass had this hand, the queue held n tasks
  abbrev pub WasHolding : ℕ → ℕ → Hand T → Type 0
  WasHolding n passes h = (hands : List (Hand T)) × (log : List (ℕ × (ℕ × T))) × (rest : List (ℕ × T)) × Stands passes hands log rest × Contains hands h × (length rest ≡ n)

  -- in such a state, in which the pass had this hand, x was the oldest task that the queue held, and the pass `by` had put it
  abbrev pub WasOldest : ℕ → T → ℕ → Hand T → Type 0
  WasOldest by x passes h = (hands : List (Hand T)) × (log : List (ℕ × (ℕ × T))) × (rest : List (ℕ × T)) × Stands passes hands log ((by, x) ∷ rest) × Contains hands h

-- the items that are marked, in their order
abbrev pub marked : {A : Type 0} → List Bool → List A → List A
marked [] ys = []
marked (m ∷ ms) [] = []
marked (m ∷ ms) (y ∷ ys) = cond m (y ∷ marked ms ys) (marked ms ys)

-- xs are some of ys, in their order
abbrev pub StandsIn : {A : Type 0} → List A → List A → Type 0
StandsIn xs ys = (marks : List Bool) × (xs ≡ marked marks ys)

-- Of a queue that is empty. These are the hands of all passes there: what they put is what they took, each task as often, and what one
-- took of another's tasks stands in the order in which they were put
pub record AllTaken {T : Type 0} (passes : ℕ) (hands : List (Hand T)) : Type 0 where
  pub each_as_often : (w : T → ℕ) → total (put_weight w) hands ≡ total (take_weight w) hands
  pub in_order : (p q : Hand T) → Contains hands p → Contains hands q → StandsIn (of p.number q.takes) p.puts
  pub one_order : (log : List (ℕ × (ℕ × T))) × Stands passes hands log []

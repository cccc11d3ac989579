-- A round in the middle: what is done, what is in flight, and what is still to be asked.
use Rattle.std.specs.Prelude.{◌≡◌, ℕ, zero, suc, ◌+◌, true, List, [], ◌∷◌, ◌++◌, Option, Some, None, Contains}
use Rattle.std.specs.List.{AllByRecursion}
use Rattle.zio_trace.specs.Programs.{Program, Ends, Asks, Deed}
use Rattle.zio_trace.specs.Oracles.{Ways, Oracle, heard, asked_in, Sure, weigh, ops_of, AreOnce, InOrder}
use Rattle.zio_trace.specs.Labels.{Labelled, labelled, ways_at, Earlier, same_place}

-- the program's nth operation
abbrev pub nth_asked : {Op Ans A : Type 0} → Oracle Op Ans → ℕ → Program Op Ans A → Option Op
nth_asked o n (Ends a) = None
nth_asked o zero (Asks op more) = Some op
nth_asked o (suc n) (Asks op more) = nth_asked o n (more (o.answer op))

-- what is asked behind its first n operations, which are out
abbrev pub asked_behind : {Op Ans A : Type 0} → Oracle Op Ans → ℕ → Program Op Ans A → List Op
asked_behind o n (Ends a) = []
asked_behind o zero (Asks op more) = o.asked op ++ asked_in o (more (o.answer op))
asked_behind o (suc n) (Asks op more) = asked_behind o n (more (o.answer op))

-- a node in flight: the operation that it does, what is left of its plan, and how many of that are out
pub record Slot (Op Ans : Type 0) : Type 0 where
  pub op : Labelled Op
  pub rest : Program (Labelled Op) Ans Ans
  pub outs : ℕ

abbrev pub todo_of : {Op Ans : Type 0} → Oracle (Labelled Op) Ans → Slot Op Ans → List (Labelled Op)
todo_of o s = asked_behind o s.outs s.rest

-- what the node knows
abbrev pub Knows : {Op Ans : Type 0} → Ways Op Ans → List (Deed (Labelled Op) Ans) → Slot Op Ans → Type 0
Knows ways ds s = Sure (ways_at ways) ds (λ o. heard o s.rest ≡ o.answer s.op)

-- what is left of the operation is all of it
abbrev pub IsFresh : {Op Ans : Type 0} → Ways Op Ans → List (Deed (Labelled Op) Ans) → Slot Op Ans → Type 0
IsFresh ways ds s = Sure (ways_at ways) ds (λ o. (heard o s.rest ≡ o.answer s.op) × (todo_of o s ≡ o.asked s.op))

-- these stand in what the round asks
abbrev pub AskedWithin : {Op Ans A : Type 0} → Program Op Ans A → Oracle (Labelled Op) Ans → List (Labelled Op) → Type 0
AskedWithin p o ops = AllByRecursion (Contains (asked_in o (labelled [] 0 p))) ops

-- what is weighed of all that is in flight
abbrev pub weigh_slots : {Op Ans : Type 0} → Oracle (Labelled Op) Ans → (Labelled Op → ℕ) → List (Slot Op Ans) → ℕ
weigh_slots o w [] = 0
weigh_slots o w (s ∷ ss) = weigh w (todo_of o s) + weigh_slots o w ss

-- the round after these deeds, with these nodes in flight and so much left of its own program
pub record IsGoing {Op Ans A : Type 0} (ways : Ways Op Ans) (Passes : Labelled Op → Labelled Op → Type 0) (Lies : Op → Type 0) (mend : Op → Ans → Ans) (p : Program Op Ans A) (ds : List (Deed (Labelled Op) Ans)) (slots : List (Slot Op Ans)) (root : Program (Labelled Op) Ans A) (outs : ℕ) : Type 0 where
  pub knows : AllByRecursion (Knows ways ds) slots
  pub ends : Sure (ways_at ways) ds (λ o. heard o root ≡ heard o (labelled [] 0 p))
  pub todo : Sure (ways_at ways) ds (λ o. (w : Labelled Op → ℕ) → weigh w (asked_in o (labelled [] 0 p)) ≡ weigh w (ops_of ds) + (weigh_slots o w slots + weigh w (asked_behind o outs root)))
  pub inside : AllByRecursion (λ (s : Slot Op Ans). Sure (ways_at ways) ds (λ o. AskedWithin p o (todo_of o s))) slots
  pub left : Sure (ways_at ways) ds (λ o. AskedWithin p o (asked_behind o outs root))
  pub within : Sure (ways_at ways) ds (λ o. AskedWithin p o (ops_of ds))
  pub once : AreOnce same_place ds
  pub single : AllByRecursion (λ (d : Deed (Labelled Op) Ans). ways.single d.op.op ≡ true) ds
  pub fit : AllByRecursion (λ (d : Deed (Labelled Op) Ans). mend d.op.op d.answer ≡ d.answer) ds
  pub order : InOrder Earlier Passes ds
  pub lies : AllByRecursion (λ (d : Deed (Labelled Op) Ans). Lies d.op.op) ds

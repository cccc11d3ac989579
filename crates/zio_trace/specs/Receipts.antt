-- What a node has by itself, where many threads work: its own deeds, in any order, among them those of its calls that ended.
use Rattle.std.specs.Prelude.{◌≡◌, ℕ, ◌+◌, List, ◌++◌, true, Contains}
use Rattle.std.specs.List.{AllByRecursion}
use Rattle.zio_trace.specs.Programs.{Program, Deed}
use Rattle.zio_trace.specs.Oracles.{Ways, heard, asked_in, Sure, weigh, ops_of, AreOnce}
use Rattle.zio_trace.specs.Labels.{Labelled, ways_at, same_place, IsIn}

-- a deed of a part that has ended
abbrev pub OfEnded : {Op Ans : Type 0} → List ℕ → (ℕ → Type 0) → Deed (Labelled Op) Ans → Type 0
OfEnded at HasEnded d = (n : ℕ) × (below : List ℕ) × IsIn at n below d.op.at × HasEnded n

-- By these deeds so much is left of the whole program.
pub record Has {Op Ans A : Type 0} (ways : Ways Op Ans) (ds : List (Deed (Labelled Op) Ans)) (whole rest : Program (Labelled Op) Ans A) : Type 0 where
  pub knows : Sure (ways_at ways) ds (λ o. heard o rest ≡ heard o whole)
  pub all : Sure (ways_at ways) ds (λ o. (w : Labelled Op → ℕ) → weigh w (asked_in o whole) ≡ weigh w (ops_of ds) + weigh w (asked_in o rest))
  pub within : Sure (ways_at ways) ds (λ o. AllByRecursion (Contains (asked_in o whole)) (ops_of ds ++ asked_in o rest))
  pub once : AreOnce same_place ds
  pub single : AllByRecursion (λ (d : Deed (Labelled Op) Ans). ways.single d.op.op ≡ true) ds

-- the operation gave this by these deeds, which stand in its part
pub record Gave {Op Ans : Type 0} (ways : Ways Op Ans) (op : Labelled Op) (answer : Ans) (ds : List (Deed (Labelled Op) Ans)) : Type 0 where
  pub known : Sure (ways_at ways) ds (λ o. o.answer op ≡ answer)
  pub all : Sure (ways_at ways) ds (λ o. (w : Labelled Op → ℕ) → weigh w (o.asked op) ≡ weigh w (ops_of ds))
  pub once : AreOnce same_place ds
  pub single : AllByRecursion (λ (d : Deed (Labelled Op) Ans). ways.single d.op.op ≡ true) ds
  pub within : Sure (ways_at ways) ds (λ o. AllByRecursion (Contains (o.asked op)) (ops_of ds))

-- Programs of leaf operations as plans of tasks.
use Rattle.std.proofs.Common.{◌≡◌, ℕ, zero, suc, List, [], ◌∷◌, length, Option, refl, ap}
use Rattle.zio_blkptr.specs.declared.pointer.Bp.{Bp}
use Rattle.zio_trace.specs.Calls.{NextIs, answered_at}
use Rattle.zio_trace.specs.CopyPrograms.{Program}
use Rattle.zio_trace.specs.Leaves.{LeafOp}
use Rattle.zio_trace.specs.Plans.{TaskPlan, by_leaves}
use Rattle.zio_trace.specs.Programs.{Ends, Asks, ◌>>=◌}
use Rattle.zio_trace.specs.Tasks.{Leaf, Value, got}
use Rattle.zio_trace.specs.Underway.{early}
use Rattle.zio_parts.specs.Answered.{AsksBehind}

-- a program whose value is read by this, as a plan
abbrev pub planned : {A : Type 0} → (A → Value) → Program A → TaskPlan Value
planned f p = by_leaves p >>= λ a. Ends (f a)

pub planned_next : {A : Type 0} (f : A → Value) (outs : List (Option (Option Bp))) (p : Program A) (op : LeafOp) → AsksBehind (length outs) p op → NextIs early outs (planned f p) (Leaf op)
planned_next f [] (Ends a) op h = absurd h
planned_next f (r ∷ outs) (Ends a) op h = absurd h
planned_next f [] (Asks x more) op h = ap Leaf h
planned_next f (r ∷ outs) (Asks x more) op h = λ v _. planned_next f outs (more (got v)) op (h (got v) tt)

pub planned_answered : {A : Type 0} (f : A → Value) (n : ℕ) (v : Value) (p : Program A) → answered_at n v (planned f p) ≡ planned f (answered_at n (got v) p)
planned_answered f zero v (Ends a) = refl
planned_answered f (suc n) v (Ends a) = refl
planned_answered f zero v (Asks x more) = refl
planned_answered f (suc n) v (Asks x more) = λ i. Asks (Leaf x) (λ w. planned_answered f n v (more (got w)) i)

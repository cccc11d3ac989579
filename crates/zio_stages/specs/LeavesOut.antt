-- What a part asks of leaves: all that it asked before some operation is heard, and some of what it asked since is out.
use Rattle.std.specs.Prelude.{◌≡◌, ℕ, suc, zero, List, [], ◌∷◌, ◌++◌, length, Bool, true, false, None}
use Rattle.std.specs.List.{AllByRecursion}
use Rattle.zio_trace.specs.Leaves.{Store}
use Rattle.zio_trace.specs.Tasks.{Leaf, Task}
use Rattle.zio_frames.specs.Frames.{Frame}
use Rattle.zio_frames.specs.Slots.{AllHeard, Heard, IsOut, Slot}

-- an operation on a leaf
abbrev pub IsLeafTask : Task → Type 0
IsLeafTask (Leaf act) = Unit {0}
IsLeafTask _ = ⊥

-- a write on a leaf in this pass
abbrev pub IsWriteIn : Bool → Task → Type 0
IsWriteIn retry (Leaf (Store again bytes spot)) = again ≡ retry
IsWriteIn retry _ = ⊥

-- which of them are out, and the others are heard
abbrev pub AreOut : List Bool → List Slot → Type 0
AreOut [] [] = Unit {0}
AreOut [] (slot ∷ slots) = ⊥
AreOut (out ∷ outs) [] = ⊥
AreOut (true ∷ outs) (IsOut told ∷ slots) = (told ≡ None) × AreOut outs slots
AreOut (true ∷ outs) (Heard v ∷ slots) = ⊥
AreOut (false ∷ outs) (IsOut told ∷ slots) = ⊥
AreOut (false ∷ outs) (Heard v ∷ slots) = AreOut outs slots

-- The first operations, so many, are heard; of those behind them, which are such ones, these are out.
pub record AsksLeaves (IsNow : Task → Type 0) (base : ℕ) (outs : List Bool) (x : Frame) : Type 0 where
  pub front : List Slot
  pub slots : List Slot
  pub before : List Task
  pub now : List Task
  pub slots_are : x.slots ≡ front ++ slots
  pub asked_are : x.asked ≡ before ++ now
  pub many : length front ≡ base
  pub full : length before ≡ length front
  pub full_now : length now ≡ length slots
  pub heard : AllHeard front
  pub outs_are : AreOut outs slots
  pub leaves : AllByRecursion IsLeafTask before
  pub are_now : AllByRecursion IsNow now

-- the part asked nothing but operations on leaves, each with its slot
pub record HasAskedLeaves (x : Frame) : Type 0 where
  pub full : length x.asked ≡ length x.slots
  pub leaves : AllByRecursion IsLeafTask x.asked

-- how many are out
abbrev pub count_out : List Bool → ℕ
count_out [] = 0
count_out (true ∷ outs) = suc (count_out outs)
count_out (false ∷ outs) = count_out outs

-- how many of the first n are out
abbrev pub out_below : ℕ → List Bool → ℕ
out_below zero outs = 0
out_below (suc n) [] = 0
out_below (suc n) (true ∷ outs) = suc (out_below n outs)
out_below (suc n) (false ∷ outs) = out_below n outs

-- A claim takes places once in its round: who may take some still.
use Rattle.std.specs.Prelude.{◌≡◌, ℕ, ◌+◌, ◌≤◌, cond, List, [], ◌∷◌, slice_get, Bool, true, false, Option, Some, None, ◌⊎◌}
use Rattle.std.specs.List.{AllByRecursion, sum_by}
use Rattle.zio_types.specs.declared.place.Place.{Place}
use Rattle.zio_trace.specs.Families.{Forest, NoTrees}
use Rattle.zio_trace.specs.SoundRounds.{HasClaim}
use Rattle.zio_trace.specs.Tasks.{Attempt, Settle, TakePlaces, Task, attempted}
use Rattle.zio_frames.specs.Frames.{Flying, Stack}
use Rattle.zio_frames.specs.Slots.{Heard, IsOut, Slot}
use Rattle.zio_staged.specs.Entries.{Live}

abbrev pub takes : Task → Bool
takes (TakePlaces tree) = true
takes _ = false

-- 1 where no places were taken, and 0 else
abbrev pub none_taken : List Task → ℕ
none_taken [] = 1
none_taken (op ∷ asked) = cond (takes op) 0 (none_taken asked)

-- 1 where what does this operation, and asked these, may take places still
abbrev pub turn_left : Task → List Task → ℕ
turn_left (Attempt attempt p kids) asked = none_taken asked
turn_left (TakePlaces tree) asked = none_taken asked
turn_left _ asked = 0

abbrev pub turn_of : Stack → ℕ
turn_of st = turn_left st.outer.op st.outer.asked

abbrev pub turn_of_live : Live → ℕ
turn_of_live x = turn_of x.stack

-- how many nodes may
abbrev pub turns_in : List Live → ℕ
turns_in lives = sum_by turn_of_live lives

-- 1 where nothing was asked, and 0 else
abbrev pub none_asked : List Task → ℕ
none_asked [] = 1
none_asked (op ∷ asked) = 0

abbrev pub turn_of_tree : Option Flying → ℕ
turn_of_tree None = 0
turn_of_tree (Some x) = none_asked x.stack.outer.asked

-- how many trees handed out nothing
abbrev pub turns_of_trees : List (Option Flying) → ℕ
turns_of_trees [] = 0
turns_of_trees (top ∷ tops) = turn_of_tree top + turns_of_trees tops

-- 1 where there are any, and 0 else
abbrev pub one_for : List Place → ℕ
one_for [] = 0
one_for (p ∷ places) = 1

abbrev pub IsNoSettle : Task → Type 0
IsNoSettle (Settle p kids) = ⊥
IsNoSettle _ = Unit {0}

-- an attempt of which nothing is left
abbrev pub LeavesNothing : Slot → Type 0
LeavesNothing (Heard v) = (attempted v).left ≡ NoTrees
LeavesNothing (IsOut told) = Unit {0}

-- Either the tree handed out nothing, or one node may take places still, or some were claimed; nodes settle no tree,
-- and nothing is left of the attempts that the tree heard of.
pub record TakesOnce (claimed : List Place) (tops : List (Option Flying)) (lives : List Live) : Type 0 where
  pub few : turns_in lives + turns_of_trees tops + one_for claimed ≤ 1
  pub parts : AllByRecursion (λ (x : Live). IsNoSettle x.stack.outer.op) lives
  pub quiet : (n : ℕ) (top : Flying) → slice_get tops n ≡ Some (Some top) → AllByRecursion LeavesNothing top.stack.outer.slots

-- places are claimed in the round of a claim alone, and once
pub record ClaimsOnce (f : Forest) (claimed : List Place) (tops : List (Option Flying)) (lives : List Live) : Type 0 where
  pub alone : (claimed ≡ []) ⊎ HasClaim f
  pub once : HasClaim f → TakesOnce claimed tops lives

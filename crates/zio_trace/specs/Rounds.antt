-- A round: each tree settles, all of them under way together.
use Rattle.std.specs.Prelude.{List, [], ◌∷◌, ◌++◌, None}
use Rattle.zio_gang.specs.Attempts.{Pending, Ended}
use Rattle.zio_gang.specs.Rounds.{Ran, add_left}
use Rattle.zio_trace.specs.Families.{Forest, NoTrees, TreeOf, flat, AreUnder}
use Rattle.zio_trace.specs.Plans.{TaskPlan}
use Rattle.zio_trace.specs.Programs.{Ends, ◌>>=◌, ask, Done}
use Rattle.zio_trace.specs.Tasks.{Settled, Settle, Task, settled}

-- each tree in the order of its attempts
abbrev pub trees_in : Forest → List (List Pending)
trees_in NoTrees = []
trees_in (TreeOf p kids others) = (flat kids ++ p ∷ []) ∷ trees_in others

abbrev pub AreTrees : Forest → Type 0
AreTrees NoTrees = Unit {0}
AreTrees (TreeOf p kids others) = AreUnder None (TreeOf p kids NoTrees) × AreTrees others

pub record Round : Type 0 where
  pub left : List (List Pending)
  pub ended : List Ended

abbrev pub add_tree : Settled → Round → Round
add_tree s others = record { left = add_left s.again others.left; ended = s.ended ++ others.ended }

abbrev pub plan_round : Forest → TaskPlan Round
plan_round NoTrees = Ends (record { left = []; ended = [] })
plan_round (TreeOf p kids others) = ask (Settle p kids) >>= λ v. plan_round others >>= λ o. Ends (add_tree (settled v) o)

-- each tree as a task
abbrev pub settles : Forest → List Task
settles NoTrees = []
settles (TreeOf p kids others) = Settle p kids ∷ settles others

-- a round of the definitions, as something done
abbrev pub as_round : Ran → Done Round
as_round r = record { value = record { left = r.left; ended = r.ended }; asks = r.asks; images = r.images }

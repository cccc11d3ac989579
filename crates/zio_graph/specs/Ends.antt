-- What is told of a round's trees once each is settled.
use Rattle.std.specs.Prelude.{ℕ, List, [], ◌∷◌}
use Rattle.std.specs.List.{flat_map}
use Rattle.zio_types.specs.declared.journal.Completion.{Completion}
use Rattle.zio_course.specs.declared.runner.RequestEnd.{RequestEnd}
use Rattle.zio_course.specs.Runners.{completion_for}
use Rattle.zio_exchange.specs.declared.waiting.UnfinishedRequest.{UnfinishedRequest}
use Rattle.zio_exchange.specs.declared.outcome.FinishedRequest.{FinishedRequest}
use Rattle.zio_turns.specs.declared.trees.TreeEnd.{TreeEnd}
use Rattle.zio_turns.specs.declared.trees.TreeEnd.TheVariants.{Finished as RootFinished, Suspended}
use Rattle.zio_turns.specs.declared.trees.TreeState.{TreeState}
use Rattle.zio_turns.specs.declared.trees.TreeState.TheVariants.{Settled, UnderWay}

-- what is told of a request that finished
abbrev pub told_of : FinishedRequest → RequestEnd
told_of f = record { request = f.request; error = f.error; bytes = f.bytes; tree = f.block }

-- its completion
abbrev pub completion_of : ℕ → FinishedRequest → Completion
completion_of round f = completion_for round (told_of f)

-- what is left of a tree that is suspended
abbrev pub left_at : TreeEnd → List (List UnfinishedRequest)
left_at RootFinished = []
left_at (Suspended whole) = whole ∷ []

abbrev pub left_by : TreeState → List (List UnfinishedRequest)
left_by (UnderWay attempt) = []
left_by (Settled end) = left_at end

-- of each tree, in their order
abbrev pub left_in : List TreeState → List (List UnfinishedRequest)
left_in states = flat_map left_by states

-- The ends of requests that admission answered.
use Rattle.std.specs.Prelude.{ℕ, List, [], ◌∷◌, Option, Some, None}
use Rattle.std.specs.List.{flat_map}
use Rattle.zio_types.specs.declared.error.Errno.{Errno}
use Rattle.zio_types.specs.declared.journal.Completion.{Completion}
use Rattle.zio_script.specs.declared.script.Item.{Item}
use Rattle.zio_script.specs.declared.script.Request.{Request}
use Rattle.zio_script.specs.Requests.{requests_of}
use Rattle.zio_gang.specs.Journals.{completion_of}
use Rattle.zio_gang.specs.Rounds.{answered_with}

abbrev pub answer_of : Option Errno → ℕ → Request → List Completion
answer_of None round r = []
answer_of (Some e) round r = completion_of round (answered_with e r) ∷ []

-- the completions of the requests that were answered, by number
abbrev pub answered_in : (ℕ → Option Errno) → ℕ → List Request → List Completion
answered_in error round requests = flat_map (λ (r : Request). answer_of (error r.number) round r) requests

-- the same of a line's request, if it is one
abbrev pub answered_by : (ℕ → Option Errno) → ℕ → Item → List Completion
answered_by error round item = answered_in error round (requests_of (item ∷ []))

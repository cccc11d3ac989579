-- Completions that are spelled by the numbers of requests alone, with the errors that a run gives them.
use Rattle.std.specs.Prelude.{ℕ, ◌+◌, List, [], ◌∷◌, ◌++◌, map, filter, Option, None, ◌==◌}
use Rattle.std.specs.List.{flat_map}
use Rattle.zio_types.specs.declared.error.Errno.{Errno}
use Rattle.zio_types.specs.declared.journal.Completion.{Completion}
use Rattle.zio_gang.specs.Attempts.{Ended}
use Rattle.zio_gang.specs.Journals.{is_round_of}
use Rattle.zio_gang.specs.Runs.{Round}

-- the requests that finished in the rounds of this number
abbrev pub ended_in : ℕ → List Round → List Ended
ended_in number rounds = flat_map (λ (round : Round). round.ended) (filter (is_round_of number) rounds)

-- the error of the first
abbrev pub first_error : List Ended → Option Errno
first_error [] = None
first_error (e ∷ es) = e.error

-- the error with which the request finished in the round of this number, none where it didn't
abbrev pub error_in : List Round → ℕ → ℕ → Option Errno
error_in rounds number request = first_error (filter (λ (e : Ended). e.request.number == request) (ended_in number rounds))

-- the completion that the name of a request spells in the round of this number
abbrev pub completion_spelled : List Round → ℕ → ℕ → Completion
completion_spelled rounds number request = record { request = request; round = number; error = error_in rounds number request }

-- those of rounds from this number on, whose requests completed in these orders
abbrev pub completions_from : List Round → ℕ → List (List ℕ) → List Completion
completions_from rounds number [] = []
completions_from rounds number (order ∷ orders) = map (completion_spelled rounds number) order ++ completions_from rounds (number + 1) orders

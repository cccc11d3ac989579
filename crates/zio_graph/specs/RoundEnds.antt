-- What a round's end tells of its trees, where each request finished in some order.
use Rattle.std.specs.Prelude.{◌≡◌, ℕ, ◌+◌, List, map, count_by, Contains, IsPermutation}
use Rattle.std.specs.List.{AllByRecursion}
use Rattle.std.specs.List.Sorted.{IsNonDecreasingBy}
use Rattle.zio_types.specs.declared.journal.Completion.{Completion}
use Rattle.zio_gang.specs.Attempts.{Ended, Pending}
use Rattle.zio_gang.specs.Journals.{CompleteOnce}
use Rattle.zio_trace.specs.Rounds.{Round}
use Rattle.zio_course.specs.declared.runner.RequestEnd.{RequestEnd}
use Rattle.zio_course.specs.Runners.{AreRisingFrom, MakesTree, completion_for, finished_by_number, finished_of, is_numbered, numbers_of, requests_in}

-- what is told of the requests is put in the order of their numbers
pub record IsByNumber (ended : List Ended) (finished : List RequestEnd) : Type 0 where
  pub same : IsPermutation (map finished_of ended) finished
  pub order : IsNonDecreasingBy (λ (f : RequestEnd). f.request) finished

-- the completions in the order in which the requests finished
abbrev pub completions_of : ℕ → List Ended → List Completion
completions_of round ended = map (completion_for round) (map finished_of ended)

-- What finished is the round's, by number; each request finished or is left, and not both; writes and claims alone made blocks; and
-- each that finished has one completion.
pub record TellsRound (round : ℕ) (trees : List (List Pending)) (r : Round) (ended : List Ended) (finished : List RequestEnd) : Type 0 where
  pub finished_is : finished ≡ finished_by_number r.ended
  pub each : (n : ℕ) → count_by (is_numbered n) (numbers_of (requests_in trees))
      ≡ count_by (is_numbered n) (map (λ (f : RequestEnd). f.request) finished) + count_by (is_numbered n) (numbers_of (requests_in r.left))
  pub rising : AreRisingFrom 0 (map (λ (f : RequestEnd). f.request) finished)
  pub makers : AllByRecursion (MakesTree trees) finished
  pub completed : AllByRecursion (λ (c : Completion). Contains (map (completion_for round) finished) c) (completions_of round ended)
  pub all_completed : AllByRecursion (λ (c : Completion). Contains (completions_of round ended) c) (map (completion_for round) finished)
  pub once : CompleteOnce (completions_of round ended)

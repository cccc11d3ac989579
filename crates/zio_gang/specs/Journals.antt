-- Which journals a run may have: each round's choices are lawful answers to what it asks for, and its completions are
-- the requests that finished in it, each after its children.
use Rattle.std.specs.Prelude.{◌≡◌, ℕ, List, [], ◌∷◌, ◌++◌, map, filter, Bool, false, ◌&&◌, IsTrue, Contains, ◌==◌}
use Rattle.std.specs.List.{AllByRecursion, list_any}
use Rattle.zio_types.specs.declared.journal.Completion.{Completion}
use Rattle.zio_types.specs.declared.place.Place.{Place}
use Rattle.zio_types.specs.declared.place.TopSize.{TopSize}
use Rattle.zio_types.specs.Choices.{Ask, Choice, same_key}
pub use Rattle.zio_types.specs.Choices.{taken_by}
use Rattle.zio_types.specs.Places.{IsLawfulChoice}
use Rattle.zio_script.specs.declared.script.Request.{Request}
use Rattle.zio_script.specs.Requests.{is_under}
use Rattle.zio_gang.specs.Attempts.{Ended}
use Rattle.zio_gang.specs.Runs.{Round}

-- ---- choices

-- the choices of one round, in the journal's order
abbrev pub choices_in : ℕ → List Choice → List Choice
choices_in round journal = filter (λ (c : Choice). c.asked.key.round == round) journal

-- what the choices were asked for
abbrev pub asks_of : List Choice → List Ask
asks_of choices = map (λ (c : Choice). c.asked) choices

-- no key stands twice
abbrev pub HaveDistinctKeys : List Ask → Type 0
HaveDistinctKeys [] = Unit {0}
HaveDistinctKeys (ask ∷ asks) =
    AllByRecursion (λ (other : Ask). same_key ask.key other.key ≡ false) asks × HaveDistinctKeys asks

-- each choice is lawful beside the places that are used and those that the choices before it took
-- Rule: allocation.
abbrev pub AreLawful : List TopSize → List Place → List Choice → Type 0
AreLawful sizes used [] = Unit {0}
AreLawful sizes used (c ∷ cs) = IsLawfulChoice sizes used c × AreLawful sizes (taken_by c ++ used) cs

-- The choices of one round, beside the places in use at its start: for all that it asks and for nothing else, each
-- lawful. The sizes are the sectors and units of the tops.
-- Rule: deferred free.
pub record AreChoicesOf (sizes : List TopSize) (used : List Place) (asks : List Ask) (choices : List Choice) : Type 0 where
  pub distinct : HaveDistinctKeys (asks_of choices)
  pub asked : AllByRecursion (λ ask. Contains asks ask) (asks_of choices)
  pub answered : AllByRecursion (λ ask. Contains (asks_of choices) ask) asks
  pub lawful : AreLawful sizes used choices

-- the round has this number
abbrev pub is_round_of : ℕ → Round → Bool
is_round_of number round = round.number == number

-- Every choice belongs to one of the rounds, and each round has its choices.
-- Rule: allocation.
pub record IsLawfulJournal (sizes : List TopSize) (rounds : List Round) (journal : List Choice) : Type 0 where
  pub of_rounds : AllByRecursion (λ (c : Choice). IsTrue (list_any (is_round_of c.asked.key.round) rounds)) journal
  pub each : AllByRecursion (λ (round : Round). AreChoicesOf sizes round.used round.asks (choices_in round.number journal)) rounds

-- ---- completions

-- the completions of one round, in the journal's order
abbrev pub completions_in : ℕ → List Completion → List Completion
completions_in round completions = filter (λ (c : Completion). c.round == round) completions

-- the completion that a finished request has
abbrev pub completion_of : ℕ → Ended → Completion
completion_of round e = record { request = e.request.number; round = round; error = e.error }

-- no request completes twice
abbrev pub CompleteOnce : List Completion → Type 0
CompleteOnce [] = Unit {0}
CompleteOnce (c ∷ cs) = AllByRecursion (λ (other : Completion). (c.request == other.request) ≡ false) cs × CompleteOnce cs

-- the request that completes there is a child of the one that completes here
abbrev pub is_child : List Request → Completion → Completion → Bool
is_child requests parent child =
    list_any (λ (r : Request). (r.number == child.request) && is_under r parent.request) requests

-- no child completes after its parent
abbrev pub CompleteAfterChildren : List Request → List Completion → Type 0
CompleteAfterChildren requests [] = Unit {0}
CompleteAfterChildren requests (c ∷ cs) =
    AllByRecursion (λ other. is_child requests c other ≡ false) cs × CompleteAfterChildren requests cs

-- The completions of one round are those of the requests that finished in it.
pub record AreCompletionsOf (number : ℕ) (ended : List Ended) (completions : List Completion) : Type 0 where
  pub finished : AllByRecursion (λ c. Contains (map (completion_of number) ended) c) completions
  pub all : AllByRecursion (λ c. Contains completions c) (map (completion_of number) ended)

-- Every completion belongs to one of the rounds, each round has its completions, no request completes twice, and none
-- before its children among all requests of the script.
-- Rule: completions.
pub record AreCompletions (requests : List Request) (rounds : List Round) (completions : List Completion) : Type 0 where
  pub of_rounds : AllByRecursion (λ (c : Completion). IsTrue (list_any (is_round_of c.round) rounds)) completions
  pub each : AllByRecursion (λ (round : Round). AreCompletionsOf round.number round.ended (completions_in round.number completions)) rounds
  pub once : CompleteOnce completions
  pub after_children : CompleteAfterChildren requests completions

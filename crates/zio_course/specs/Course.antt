-- How far a run has come: what happened, what was printed of it, and what is left of the course.
use Rattle.std.specs.Prelude.{◌≡◌, ℕ, zero, suc, ◌<◌, ◌≤◌, List, [], ◌++◌, length}
use Rattle.std.specs.List.{AllByRecursion}
use Rattle.zio_types.specs.declared.journal.Completion.{Completion}
use Rattle.zio_types.specs.declared.journal.Journal.{Journal}
use Rattle.zio_types.specs.declared.place.TopSize.{TopSize}
use Rattle.zio_types.specs.Choices.{Choice}
use Rattle.zio_script.specs.declared.script.Request.{Request}
use Rattle.zio_script.specs.declared.script.Script.{Script}
use Rattle.zio_cksum.specs.Images.{Images}
use Rattle.zio_gang.specs.Journals.{AreCompletions, IsLawfulJournal}
use Rattle.zio_gang.specs.Runs.{Course, Event, Plan, Round, add_events, plan_of, rounds_of, run_script}
use Rattle.zio_report.specs.declared.report.Show.{Show}
use Rattle.zio_report.specs.declared.report.Show.TheVariants.{Report, Summary}
use Rattle.zio_report.specs.Reports.{RunSize, text_so_far}

-- these choices and completions are of rounds after this one
pub record AreLater (round : ℕ) (more : List Choice) (done : List Completion) : Type 0 where
  pub choices : AllByRecursion (λ (c : Choice). round < c.asked.key.round) more
  pub completions : AllByRecursion (λ (c : Completion). round < c.round) done

-- Whatever the journal holds of later rounds, these events happen first, and then the rest of the course.
abbrev pub Reaches : Script → Images → Journal → List Event → (Plan → Course) → Type 0
Reaches script before journal events rest = (later : List Choice) → AllByRecursion (λ (c : Choice). journal.rounds < c.asked.key.round) later
    → run_script script before (journal.places ++ later) ≡ add_events events (rest (plan_of script before (journal.places ++ later)))

-- The entries of so many rounds, those of the first round first: of each round they are such.
abbrev pub AreOfRounds : (ℕ → List Choice → Type 0) → ℕ → List Choice → Type 0
AreOfRounds such zero entries = entries ≡ []
AreOfRounds such (suc rounds) entries =
    (before : List Choice) × (last : List Choice) × (entries ≡ before ++ last) × AreOfRounds such rounds before
    × such (suc rounds) last

-- What was printed of these events, and the journal of their rounds.
pub record IsEnteredSoFar (show : Show) (n : RunSize) (sizes : List TopSize) (requests : List Request) (journal : Journal) (events : List Event) (printed : List ℕ) : Type 0 where
  pub shown : (more : List Choice) (done : List Completion) → AreLater journal.rounds more done →
      printed ≡ text_so_far show n (record { choices = journal.places ++ more; completions = journal.completions ++ done }) events
  pub lawful : IsLawfulJournal sizes (rounds_of events) journal.places
  pub counted : journal.rounds ≡ length (rounds_of events)
  pub completed : AreCompletions requests (rounds_of events) journal.completions
  pub choices_below : AllByRecursion (λ (c : Choice). c.asked.key.round ≤ journal.rounds) journal.places
  pub rounds_below : AllByRecursion (λ (r : Round). r.number ≤ journal.rounds) (rounds_of events)
  pub completions_below : AllByRecursion (λ (c : Completion). c.round ≤ journal.rounds) journal.completions

-- what is printed of an event; a summary shows none
abbrev pub shown_of : Show → List ℕ → List ℕ
shown_of (Report journal bytes) text = text
shown_of Summary text = []

-- Steps of a run: what a call does to it, wherever in its course it was.
use Rattle.std.specs.Prelude.{◌≡◌, ℕ, ◌+◌, ◌<◌, ◌≤◌, ◌^◌, List, [], ◌++◌, length, map, true, not, ◌||◌}
use Rattle.std.specs.List.{AllByRecursion}
use Rattle.zio_outside.specs.Outside.{Appends}
use Rattle.zio_types.specs.declared.journal.Journal.{Journal}
use Rattle.zio_script.specs.declared.script.Failmode.{Failmode}
use Rattle.zio_script.specs.declared.script.Item.{Item}
use Rattle.zio_script.specs.declared.script.Request.{Request}
use Rattle.zio_script.specs.declared.script.Script.{Script}
use Rattle.zio_script.specs.Accepted.{AreRising, IsOrderlyBatch, batches_from}
use Rattle.zio_cksum.specs.Images.{Images}
use Rattle.zio_gang.specs.declared.tree.Tree.{Tree}
use Rattle.zio_gang.specs.Attempts.{Pending}
use Rattle.zio_gang.specs.Runs.{Batch, Course, Plan, State, goes_on, has_trees, quiet, run_held, run_lines, then_course}
use Rattle.zio_report.specs.declared.report.RunFault.{RunFault}
use Rattle.zio_report.specs.declared.report.Show.{Show}
use Rattle.zio_report.specs.Reports.{RunSize}
use Rattle.zio_course.specs.Folds.{IsSteady, SeenFold}
use Rattle.zio_course.specs.Runners.{Standing, Stopping, rows_tell_apart}
use Rattle.zio_course.specs.SoFar.{Ahead, IsCourseAt, IsCut, IsCutText, coming}

-- the requests of each of these batches
abbrev pub requests_held : List Batch → List (List Request)
requests_held held = map (λ (b : Batch). b.requests) held

-- Wherever the course is before this step, it is behind it afterwards, with these batches yet to run in place of those, and
-- the sink got the text of what happened.
abbrev pub StepRan : Show → Failmode → Standing → Standing → SeenFold → SeenFold → (Ahead → Ahead) → List (List Request) → List (List Request) → Journal → Journal → (Images → Type 0) → (Images → Type 0)
    → (List ℕ → Type 0) → (List ℕ → Type 0) → (Ahead → Plan → State → Course) → Type 0
StepRan show failmode s now f g moved own kept old new tells new_tells holds new_holds step =
    (n : RunSize) (script : Script) (before images : Images) (ahead : Ahead) (later : List (List Request)) (printed : List ℕ) (rest : Plan → State → Course) →
    script.failmode ≡ failmode → AllByRecursion (IsOrderlyBatch (rows_tell_apart s.rows)) later
    → IsCourseAt show n script before s f ahead (own ++ later) old images printed (λ plan st. then_course (step ahead plan st) (rest plan))
    → tells images → (after : Images) × (more : List ℕ)
    × IsCourseAt show n script before now g (moved ahead) (kept ++ later) new after (printed ++ more) rest
    × new_tells after × Appends holds new_holds more

-- the same where the step was cut short
abbrev pub StepCut : Show → Failmode → Standing → SeenFold → List (List Request) → Journal → Journal → (Images → Type 0) → (Images → Type 0) → Stopping
    → (List ℕ → Type 0) → (List ℕ → Type 0) → (Ahead → Plan → State → Course) → RunFault → Type 0
StepCut show failmode s f own old new tells new_tells w holds new_holds step fault =
    (n : RunSize) (script : Script) (before images : Images) (ahead : Ahead) (later : List (List Request)) (printed : List ℕ) (rest : Plan → State → Course) →
    script.failmode ≡ failmode → AllByRecursion (IsOrderlyBatch (rows_tell_apart s.rows)) later
    → IsCourseAt show n script before s f ahead (own ++ later) old images printed (λ plan st. then_course (step ahead plan st) (rest plan))
    → tells images → (after : Images) × (text : List ℕ)
    × IsCut show n script before s.tops w fault new after text × new_tells after × IsCutText fault holds new_holds printed text

-- A run that can go on: between two rounds, with batches that are held and those that come later orderly and by number, and
-- so few of them, with so many lines to come, that each number fits.
pub record IsGoing (fits : Tree → Type 0) (s : Standing) (rounds : ℕ) (f : SeenFold) (held : List Batch) (later : List (List Request)) (spare : ℕ) : Type 0 where
  pub steady : IsSteady fits s rounds f
  pub rising : AreRising (coming f.unfinished (requests_held held ++ later))
  pub orderly : AllByRecursion (IsOrderlyBatch (rows_tell_apart s.rows)) (requests_held held ++ later)
  pub numbers : AllByRecursion (λ (b : Batch). 1 ≤ b.number) held
  pub rounds_fit : rounds + length held + spare < 2 ^ 32
  pub few : f.tally.good + f.tally.bad + length (coming f.unfinished (requests_held held ++ later)) < 2 ^ 32

-- Held batches so far: wherever the course was before them, it now goes on with those that are left.
abbrev pub HeldRan : Show → Failmode → Standing → Standing → SeenFold → SeenFold → List Batch → List Batch → Journal → Journal → (Images → Type 0) → (Images → Type 0) → (List ℕ → Type 0) → (List ℕ → Type 0) → Type 0
HeldRan show failmode s now f g held left old new tells new_tells holds new_holds =
    (n : RunSize) (script : Script) (before images : Images) (ahead : Ahead) (later : List (List Request)) (printed : List ℕ) (rest : Plan → State → Course) →
    script.failmode ≡ failmode → AllByRecursion (IsOrderlyBatch (rows_tell_apart s.rows)) later
    → IsCourseAt show n script before s f ahead (requests_held held ++ later) old images printed (λ plan st. then_course (run_held plan held st) (rest plan))
    → tells images → (after : Images) × (more : List ℕ)
    × IsCourseAt show n script before now g ahead (requests_held left ++ later) new after (printed ++ more) (λ plan st. then_course (run_held plan left st) (rest plan))
    × new_tells after × Appends holds new_holds more

-- Where the course is before this line of the script, with this ahead of it, it is behind it afterwards, with that ahead of it.
abbrev pub LineRan : Show → Failmode → Standing → Standing → SeenFold → SeenFold → Ahead → Ahead → List (List Request) → List (List Request) → Journal → Journal → (Images → Type 0) → (Images → Type 0)
    → (List ℕ → Type 0) → (List ℕ → Type 0) → (Plan → State → Course) → Type 0
LineRan show failmode s now f g ahead to own kept old new tells new_tells holds new_holds step =
    (n : RunSize) (script : Script) (before images : Images) (later : List (List Request)) (printed : List ℕ) (rest : Plan → State → Course) →
    script.failmode ≡ failmode → AllByRecursion (IsOrderlyBatch (rows_tell_apart s.rows)) later
    → IsCourseAt show n script before s f ahead (own ++ later) old images printed (λ plan st. then_course (step plan st) (rest plan))
    → tells images → (after : Images) × (more : List ℕ)
    × IsCourseAt show n script before now g to (kept ++ later) new after (printed ++ more) rest
    × new_tells after × Appends holds new_holds more

-- the same where it was cut short
abbrev pub LineCut : Show → Failmode → Standing → SeenFold → Ahead → List (List Request) → Journal → Journal → (Images → Type 0) → (Images → Type 0) → Stopping
    → (List ℕ → Type 0) → (List ℕ → Type 0) → (Plan → State → Course) → RunFault → Type 0
LineCut show failmode s f ahead own old new tells new_tells w holds new_holds step fault =
    (n : RunSize) (script : Script) (before images : Images) (later : List (List Request)) (printed : List ℕ) (rest : Plan → State → Course) →
    script.failmode ≡ failmode → AllByRecursion (IsOrderlyBatch (rows_tell_apart s.rows)) later
    → IsCourseAt show n script before s f ahead (own ++ later) old images printed (λ plan st. then_course (step plan st) (rest plan))
    → tells images → (after : Images) × (text : List ℕ)
    × IsCut show n script before s.tops w fault new after text × new_tells after × IsCutText fault holds new_holds printed text

-- nothing is held where batches run
abbrev pub HeldWaits : Failmode → List (List Pending) → List Batch → Type 0
HeldWaits failmode suspended held = (not (has_trees suspended) || goes_on failmode) ≡ true → held ≡ []

-- The lines of a script so far: where the course began with all of them, it now goes on with those that are left.
abbrev pub LinesRan : Show → Failmode → Standing → Standing → SeenFold → SeenFold → List Item → List Item → Ahead → List (List Request) → Journal → Journal → (Images → Type 0) → (Images → Type 0)
    → (List ℕ → Type 0) → (List ℕ → Type 0) → Type 0
LinesRan show failmode s now f g items left to later old new tells new_tells holds new_holds =
    (n : RunSize) (script : Script) (before images : Images) (printed : List ℕ) → script.failmode ≡ failmode
    → IsCourseAt show n script before s f (record { held = []; batch = []; batches = 0 }) (batches_from [] items) old images printed (λ plan st. run_lines plan items st)
    → tells images → (after : Images) × (more : List ℕ)
    × IsCourseAt show n script before now g to later new after (printed ++ more) (λ plan st. run_lines plan left st)
    × new_tells after × Appends holds new_holds more

-- All of them: the course is over.
abbrev pub LinesOver : Show → Failmode → Standing → Standing → SeenFold → SeenFold → List Item → List Batch → Journal → Journal → (Images → Type 0) → (Images → Type 0) → (List ℕ → Type 0) → (List ℕ → Type 0) → Type 0
LinesOver show failmode s now f g items held old new tells new_tells holds new_holds =
    (n : RunSize) (script : Script) (before images : Images) (printed : List ℕ) → script.failmode ≡ failmode
    → IsCourseAt show n script before s f (record { held = []; batch = []; batches = 0 }) (batches_from [] items) old images printed (λ plan st. run_lines plan items st)
    → tells images → (after : Images) × (more : List ℕ) × (to : Ahead) × (later : List (List Request))
    × IsCourseAt show n script before now g to later new after (printed ++ more) (λ plan st. quiet st)
    × (to.held ≡ held) × new_tells after × Appends holds new_holds more

-- the same where they were cut short
abbrev pub LinesCut : Show → Failmode → Standing → SeenFold → List Item → Journal → Journal → (Images → Type 0) → (Images → Type 0) → Stopping → (List ℕ → Type 0) → (List ℕ → Type 0) → RunFault → Type 0
LinesCut show failmode s f items old new tells new_tells w holds new_holds fault =
    (n : RunSize) (script : Script) (before images : Images) (printed : List ℕ) → script.failmode ≡ failmode
    → IsCourseAt show n script before s f (record { held = []; batch = []; batches = 0 }) (batches_from [] items) old images printed (λ plan st. run_lines plan items st)
    → tells images → (after : Images) × (text : List ℕ)
    × IsCut show n script before s.tops w fault new after text × new_tells after × IsCutText fault holds new_holds printed text

-- Where the run of a script is in its course, over images that are told.
use Rattle.std.specs.Prelude.{◌≡◌, ℕ, ◌+◌, ◌⊎◌, List, [], ◌∷◌, ◌++◌, length, sum_by, false, ◌==◌, Contains}
use Rattle.std.specs.List.{AllByRecursion}
use Rattle.zio_outside.specs.Outside.{Appends, AppendsFront}
use Rattle.zio_types.specs.declared.journal.Completion.{Completion}
use Rattle.zio_types.specs.declared.journal.Journal.{Journal}
use Rattle.zio_types.specs.declared.place.Top.{Top}
use Rattle.zio_types.specs.Places.{SamePlaces}
use Rattle.zio_script.specs.declared.script.Request.{Request}
use Rattle.zio_script.specs.declared.script.Script.{Script}
use Rattle.zio_script.specs.Accepted.{AreRising}
use Rattle.zio_script.specs.Requests.{requests_of}
use Rattle.zio_cksum.specs.Images.{Images}
use Rattle.zio_gang.specs.Attempts.{Ended, Pending, Terms}
use Rattle.zio_gang.specs.Rounds.{Bound, NamesOnce, admitted, is_bound, pending_trees, trees_of, used_places}
use Rattle.zio_gang.specs.Runs.{Batch, Course, Event, Plan, Round, State, ending, plan_of, rounds_of, run_batch, run_script, run_suspended, terms_of, then_course}
use Rattle.zio_gang.specs.Trees.{sizes_of}
use Rattle.zio_report.specs.declared.report.RunFault.{RunFault}
use Rattle.zio_report.specs.declared.report.RunFault.TheVariants.{Device, Sink, Memory}
use Rattle.zio_report.specs.declared.report.Show.{Show}
use Rattle.zio_report.specs.Meanings.{records_of}
use Rattle.zio_report.specs.Reports.{RunSize, bad_ended, good_ended, run_text}
use Rattle.zio_course.specs.declared.runner.Stop.{Stop}
use Rattle.zio_course.specs.declared.runner.Stop.TheVariants.{Device as DeviceStops, Memory as NoMemory}
use Rattle.zio_course.specs.Course.{IsEnteredSoFar, Reaches}
use Rattle.zio_course.specs.Folds.{SeenFold, requests_in_all}
use Rattle.zio_course.specs.Parents.{AreParented}
use Rattle.zio_course.specs.Runners.{DiffersLoose, IsCutRound, Standing, Stopping, named_places}
use Rattle.zio_course.specs.Steps.{IsAt, IsPlanOf}

-- ---- rounds

-- the images after these rounds
abbrev pub images_after : Images → List Round → Images
images_after images [] = images
images_after images (round ∷ rounds) = images_after round.images rounds

-- the names that are bound after these rounds
abbrev pub names_after : Bound → List Round → Bound
names_after bound [] = bound
names_after bound (round ∷ rounds) = names_after round.bound rounds

-- ---- a run between two rounds

-- what a script has yet to run: the batches that are held, the requests since the last go, and how many batches were met
pub record Ahead : Type 0 where
  pub held : List Batch
  pub batch : List Request
  pub batches : ℕ

-- the requests that have not finished, where these batches are yet to run
abbrev pub coming : List Request → List (List Request) → List Request
coming unfinished later = unfinished ++ requests_in_all later

-- The run has come to this state of the course: these events happened, and the rest goes on from it. The journal and what
-- was printed are those of the events, and no request that is yet to finish has completed.
pub record IsCourseAt (show : Show) (n : RunSize) (script : Script) (before : Images) (s : Standing) (f : SeenFold) (ahead : Ahead) (later : List (List Request)) (journal : Journal) (images : Images) (printed : List ℕ)
    (rest : Plan → State → Course) : Type 0 where
  pub events : List Event
  pub state : State
  pub reached : Reaches script before journal events (λ plan. rest plan state)
  pub entered : IsEnteredSoFar show n (sizes_of s.tops) (requests_of script.items) journal events printed
  pub plan : IsPlanOf s script.failmode (plan_of script before [])
  pub at : IsAt s f.bound f.suspended journal.rounds f.point images state
  pub once : NamesOnce state.bound
  pub held : state.held ≡ ahead.held
  pub batch : state.batch ≡ ahead.batch
  pub batches : state.batches ≡ ahead.batches
  pub panicked : state.panicked ≡ f.panicked
  pub images_are : images ≡ images_after before (rounds_of events)
  pub names_are : state.bound ≡ names_after [] (rounds_of events)
  pub good : f.tally.good ≡ length (good_ended events)
  pub bad : f.tally.bad ≡ length (bad_ended events)
  pub read : f.tally.read ≡ sum_by (λ (e : Ended). length e.bytes) (good_ended events)
  pub parents : AllByRecursion AreParented f.suspended
  pub up : AreRising (requests_of script.items)
  pub rising : AreRising (coming f.unfinished later)
  pub among : AllByRecursion (Contains (requests_of script.items)) (coming f.unfinished later)
  pub past : AllByRecursion (λ (c : Completion). AllByRecursion (λ (r : Request). (r.number == c.request) ≡ false) (coming f.unfinished later)) journal.completions

-- ---- a run that was cut short

-- the terms of the course's next round from this state; in which order the places in use come isn't said
pub record AreNextTerms (script : Script) (before : Images) (state : State) (t : Terms) : Type 0 where
  pub setting : t.setting ≡ (terms_of (plan_of script before []) state).setting
  pub failmode : t.failmode ≡ script.failmode
  pub round : t.round ≡ state.rounds + 1
  pub used : SamePlaces (used_places state.bound) t.used

-- the course goes on with a round under these terms, of these trees over these images: the trees are those of a batch that
-- admission lets run, or the suspended ones
pub data GoesOn (script : Script) (before : Images) (journal : Journal) (events : List Event) (t : Terms) (trees : List (List Pending)) (images : Images) : Type 0 where
  WithBatch : (state : State) (batch : Batch) (rest : Plan → State → Course) → Reaches script before journal events (λ plan. then_course (run_batch plan batch state) (rest plan))
      → AreNextTerms script before state t → images ≡ state.images
      → trees ≡ pending_trees state.bound batch.number (admitted state.suspended (is_bound state.bound) (trees_of batch.requests)).trees
      → GoesOn script before journal events t trees images
  WithSuspended : (state : State) (rest : Plan → State → Course) → Reaches script before journal events (λ plan. then_course (run_suspended plan state) (rest plan))
      → AreNextTerms script before state t → images ≡ state.images
      → trees ≡ state.suspended → GoesOn script before journal events t trees images

-- The round that came next was cut short: these are its terms and its trees, and the images differ from those before it in
-- sectors that were free, and in places of blocks that its trees name.
pub record IsBroken (script : Script) (before : Images) (tops : List Top) (w : Stopping) (stop : Stop) (journal : Journal) (events : List Event) (after : Images) : Type 0 where
  pub terms : Terms
  pub trees : List (List Pending)
  pub goes_on : GoesOn script before journal events terms trees (images_after before (rounds_of events))
  pub cut : IsCutRound stop w terms trees (images_after before (rounds_of events)) after
  pub loose : DiffersLoose tops (used_places (names_after [] (rounds_of events))) (named_places trees) (images_after before (rounds_of events)) after

-- no round was under way: the images are those after the rounds that were run whole
abbrev pub IsBetween : Images → Stopping → List Event → Images → Type 0
IsBetween before w events after = (w.stopped ≡ false) × (after ≡ images_after before (rounds_of events))

-- a disk's failure cuts a round short, the sink's comes between two rounds, and want of memory may do either
abbrev pub AreCutImages : RunFault → Script → Images → List Top → Stopping → Journal → List Event → Images → Type 0
AreCutImages Device script before tops w journal events after = IsBroken script before tops w DeviceStops journal events after
AreCutImages Sink script before tops w journal events after = IsBetween before w events after
AreCutImages Memory script before tops w journal events after = IsBetween before w events after ⊎ IsBroken script before tops w NoMemory journal events after

-- The run was cut short: the course begins with these events, whatever comes later, and the journal has exactly the entries
-- and completions of their rounds. This is their text.
pub record IsCut (show : Show) (n : RunSize) (script : Script) (before : Images) (tops : List Top) (w : Stopping) (fault : RunFault) (journal : Journal) (after : Images) (text : List ℕ) : Type 0 where
  pub events : List Event
  pub rest : Plan → Course
  pub begins : Reaches script before journal events rest
  pub entered : IsEnteredSoFar show n (sizes_of tops) (requests_of script.items) journal events text
  pub images : AreCutImages fault script before tops w journal events after

-- the text is empty or ends with a newline
abbrev pub EndsWhole : List ℕ → Type 0
EndsWhole text = (text ≡ []) ⊎ ((front : List ℕ) × (text ≡ front ++ 10 ∷ []))

-- What the sink got of a text where so much of it was printed before: all after a disk's failure, a front after its own, and
-- whole lines of it for want of memory.
abbrev pub IsCutText : RunFault → (List ℕ → Type 0) → (List ℕ → Type 0) → List ℕ → List ℕ → Type 0
IsCutText Device old new printed text = (more : List ℕ) × (text ≡ printed ++ more) × Appends old new more
IsCutText Sink old new printed text = (more : List ℕ) × (text ≡ printed ++ more) × AppendsFront old new more
IsCutText Memory old new printed text = (more : List ℕ) × (left : List ℕ) × (text ≡ (printed ++ more) ++ left) × EndsWhole (printed ++ more) × Appends old new more

-- ---- the whole text

-- the course is over, and this is the text of all of it
abbrev pub IsAtEnd : Show → RunSize → Script → Images → Journal → List ℕ → Type 0
IsAtEnd show n script before journal full =
    (journal.rounds ≡ length (rounds_of (run_script script before journal.places).events))
    × (full ≡ run_text show n (records_of journal) (run_script script before journal.places).events (ending (run_script script before journal.places).state))

-- the whole text of a course that ended, or its text so far where it was cut short by no disk
abbrev pub IsFullText : RunFault → Show → RunSize → Script → Images → Journal → List ℕ → List ℕ → Type 0
IsFullText Device show n script before journal text full = full ≡ text
IsFullText Sink show n script before journal text full = (full ≡ text) ⊎ IsAtEnd show n script before journal full
IsFullText Memory show n script before journal text full = (full ≡ text) ⊎ IsAtEnd show n script before journal full

-- What a whole run comes to: its report, its last images and its journal are those of the script's plain meaning.
use Rattle.std.specs.Prelude.{◌≡◌, ℕ, List, [], length, map}
use Rattle.zio_types.specs.declared.journal.Journal.{Journal}
use Rattle.zio_types.specs.declared.place.Top.{Top}
use Rattle.zio_script.specs.declared.script.Script.{Script}
use Rattle.zio_script.specs.Requests.{requests_of}
use Rattle.zio_cksum.specs.Images.{Images}
use Rattle.zio_gang.specs.declared.ending.Ending.{Ending}
use Rattle.zio_gang.specs.Journals.{IsLawfulJournal, AreCompletions}
use Rattle.zio_gang.specs.Trees.{sizes_of}
use Rattle.zio_gang.specs.Runs.{Course, run_script, rounds_of, ending, top_of}
use Rattle.zio_report.specs.declared.report.Show.{Show}
use Rattle.zio_report.specs.Reports.{run_text, end_code, RunSize, Records}

-- nothing was asked for, nothing completed, and no round was run
pub record IsEmptyJournal (journal : Journal) : Type 0 where
  pub places : journal.places ≡ []
  pub completions : journal.completions ≡ []
  pub rounds : journal.rounds ≡ 0

-- the tops that a script has over these images
abbrev pub tops_of : Script → Images → List Top
tops_of script images = map (top_of images) script.tops

-- how many tops, images and requests a run has
abbrev pub run_size_of : Script → Images → RunSize
run_size_of script images = record { tops = length script.tops; images = length images; requests = length (requests_of script.items) }

-- a journal's entries and completions
abbrev pub records_of : Journal → Records
records_of journal = record { choices = journal.places; completions = journal.completions }

-- the course of a script over these images, with the choices of this journal
abbrev pub course_of : Script → Images → Journal → Course
course_of script images journal = run_script script images journal.places

-- The whole run of a script over these images, with the journal of a run that printed this, came to this end. The size is
-- what the line of the pool tells.
pub record IsWholeRun (show : Show) (n : RunSize) (script : Script) (before : Images) (journal : Journal) (after : Images) (printed : List ℕ) (end : Ending) : Type 0 where
  pub images : after ≡ (course_of script before journal).state.images
  pub report : printed ≡ run_text show n (records_of journal) (course_of script before journal).events end
  pub places : IsLawfulJournal (sizes_of (tops_of script before)) (rounds_of (course_of script before journal).events) journal.places
  pub rounds : journal.rounds ≡ length (rounds_of (course_of script before journal).events)
  pub completions : AreCompletions (requests_of script.items) (rounds_of (course_of script before journal).events) journal.completions
  pub ending_is : end ≡ ending (course_of script before journal).state

-- What a script means over these images, with the journal of a run: its whole run, and the code of how it ended.
pub record IsMeaning (show : Show) (script : Script) (before : Images) (journal : Journal) (after : Images) (printed : List ℕ) (code : ℕ) : Type 0 where
  pub end : Ending
  pub run : IsWholeRun show (run_size_of script before) script before journal after printed end
  pub code_is : code ≡ end_code end

-- What an audit says of a run that anybody made: yes, or no with the first reason that applies. docs/FORMATS.md, "The journal
-- that a report spells", has the lines that it reads.
use Rattle.std.specs.Prelude.{◌≡◌, ℕ, ◌<◌, List, length, map, Bool, true, false}
use Rattle.std.specs.List.{AllByRecursion, flat_map, list_any}
use Rattle.zio_types.specs.declared.journal.Journal.{Journal}
use Rattle.zio_types.specs.Choices.{Choice}
use Rattle.zio_script.specs.declared.script.Script.{Script}
use Rattle.zio_script.specs.declared.script.TopLine.{TopLine}
use Rattle.zio_script.specs.Grammar.{IsScriptOf}
use Rattle.zio_script.specs.Requests.{requests_of}
use Rattle.zio_script.specs.Words.{Word, lines_of}
use Rattle.zio_cksum.specs.Images.{Images}
use Rattle.zio_gang.specs.Journals.{AreCompletions, IsLawfulJournal}
use Rattle.zio_gang.specs.Runs.{Round, ending, rounds_of, run_script}
use Rattle.zio_gang.specs.Trees.{sizes_of}
use Rattle.zio_report.specs.declared.report.Show.TheVariants.{Report}
use Rattle.zio_report.specs.Meanings.{course_of, records_of, run_size_of, tops_of}
use Rattle.zio_report.specs.Reports.{run_text}
use Rattle.zio_spelled.specs.declared.rounds.RoundJournal.{RoundJournal}
use Rattle.zio_spelled.specs.Rounds.{IsSpelled, lines_before}
use Rattle.zio_spelled.specs.Spelled.{IsOrder, IsTakeShape, is_journal, is_order, is_take}
use Rattle.zio_audit.specs.Completions.{completions_from}
use Rattle.zio_audit.specs.declared.verdict.Verdict.{Verdict}
use Rattle.zio_audit.specs.declared.verdict.Verdict.TheVariants.{Yes, No}
use Rattle.zio_audit.specs.declared.verdict.Why.{Why}
use Rattle.zio_audit.specs.declared.verdict.Why.TheVariants.{Script as OfScript, Lines as OfLines, Places as OfPlaces, Completions as OfCompletions, Text as OfText, Images as OfImages}

-- what is audited: the text of a script, a report, and the images before and after
pub record Case : Type 0 where
  pub script : List ℕ
  pub report : List ℕ
  pub before : Images
  pub after : Images

-- ---- the script

-- each leaf of the tops has one of these images
abbrev pub HaveImages : Images → List TopLine → Type 0
HaveImages images tops = AllByRecursion (λ (top : TopLine). AllByRecursion (λ leaf. leaf < length images) top.leaves) tops

-- the case's text is this script, and its tops name no leaf without an image
pub record IsScriptIn (c : Case) (script : Script) : Type 0 where
  pub accepted : IsScriptOf c.script script
  pub images : HaveImages c.before script.tops

-- ---- the lines

-- the line is of the shape that its first word says
pub record IsShaped (line : Word) : Type 0 where
  pub take : is_take line ≡ true → IsTakeShape line
  pub order : is_order line ≡ true → (numbers : List ℕ) × IsOrder line numbers

-- a report's lines of the journal are of their shapes, and none stands before every round
pub record AreShaped (report : List ℕ) : Type 0 where
  pub before : list_any is_journal (lines_before report) ≡ false
  pub each : AllByRecursion IsShaped (lines_of report)

-- ---- the spelled journal

-- the entries of all rounds
abbrev pub entries_of : List RoundJournal → List Choice
entries_of journals = flat_map (λ (j : RoundJournal). j.entries) journals

-- the order of each round's completions
abbrev pub orders_of : List RoundJournal → List (List ℕ)
orders_of journals = map (λ (j : RoundJournal). j.order) journals

-- the rounds of the script under these entries
abbrev pub rounds_under : Script → Images → List Choice → List Round
rounds_under script images entries = rounds_of (run_script script images entries).events

-- The journal that a report spells by its rounds: its entries, and its completions with the errors that the script gives
-- them under these entries.
abbrev pub journal_spelled : Script → Images → List RoundJournal → Journal
journal_spelled script images journals = record {
  places = entries_of journals;
  completions = completions_from (rounds_under script images (entries_of journals)) 1 (orders_of journals);
  rounds = length journals;
}

-- the case's script, and the journal of each round that its report spells
pub record IsReadAs (c : Case) (script : Script) (journals : List RoundJournal) : Type 0 where
  pub script_is : IsScriptIn c script
  pub spelled : IsSpelled (sizes_of (tops_of script c.before)) c.report journals

-- ---- what has to stand

-- the entries are lawful for what the script asks under them
abbrev pub HasLawfulEntries : Script → Images → Journal → Type 0
HasLawfulEntries script images j =
    IsLawfulJournal (sizes_of (tops_of script images)) (rounds_of (course_of script images j).events) j.places

-- the completions are those of the requests that finished, each once and after its children
abbrev pub HasCompletions : Script → Images → Journal → Type 0
HasCompletions script images j = AreCompletions (requests_of script.items) (rounds_of (course_of script images j).events) j.completions

-- the report is the text of the run with its journal, with the bytes of reads or without
pub record IsTextOf (script : Script) (images : Images) (j : Journal) (report : List ℕ) : Type 0 where
  pub bytes : Bool
  pub text : report ≡ run_text (Report true bytes) (run_size_of script images) (records_of j) (course_of script images j).events (ending (course_of script images j).state)

-- it stands for the script and the journal that the case is read as
pub record OfRun (c : Case) (Stands : Script → Images → Journal → Type 0) : Type 0 where
  pub script : Script
  pub journals : List RoundJournal
  pub read : IsReadAs c script journals
  pub stands : Stands script c.before (journal_spelled script c.before journals)

-- What has to stand so that this is no reason to say no.
abbrev pub Stands : Why → Case → Type 0
Stands OfScript c = (script : Script) × IsScriptIn c script
Stands OfLines c = AreShaped c.report
Stands OfPlaces c = OfRun c HasLawfulEntries
Stands OfCompletions c = OfRun c HasCompletions
Stands OfText c = OfRun c (λ script images j. IsTextOf script images j c.report)
Stands OfImages c = OfRun c (λ script images j. c.after ≡ (course_of script images j).state.images)

-- ---- the verdict

-- the number of a reason
abbrev pub why_number : Why → ℕ
why_number OfScript = 1
why_number OfLines = 2
why_number OfPlaces = 3
why_number OfCompletions = 4
why_number OfText = 5
why_number OfImages = 6

-- the reason applies
abbrev pub Holds : Why → Case → Type 0
Holds why c = ¬ Stands why c

-- the reason applies, and none of those with lower numbers does
pub record IsLeast (why : Why) (c : Case) : Type 0 where
  pub holds : Holds why c
  pub first : (other : Why) → why_number other < why_number why → Stands other c

-- Yes where no reason applies, no with the number of the first that does.
abbrev pub IsVerdict : Case → Verdict → Type 0
IsVerdict c Yes = (why : Why) → Stands why c
IsVerdict c (No number) = (why : Why) × (number ≡ why_number why) × IsLeast why c

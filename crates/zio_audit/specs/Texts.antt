-- The text of a run, and that of a report's lines that are none of the journal. docs/FORMATS.md, "Report".
use Rattle.std.specs.Prelude.{◌≡◌, ◌↔◌, ℕ, zero, suc, ◌+◌, ◌^◌, ◌<◌, List, [], ◌∷◌, length, count_by, Bool, true, false, ◌==◌, nat_le}
use Rattle.std.specs.List.{AllByRecursion, flat_map, list_any}
use Rattle.zio_types.specs.declared.journal.Completion.{Completion}
use Rattle.zio_types.specs.declared.journal.Journal.{Journal}
use Rattle.zio_script.specs.declared.script.Script.{Script}
use Rattle.zio_script.specs.Grammar.{IsScriptOf}
use Rattle.zio_script.specs.Words.{Word}
use Rattle.zio_cksum.specs.Images.{Images}
use Rattle.zio_gang.specs.Journals.{choices_in, completions_in}
use Rattle.zio_gang.specs.Runs.{ending}
use Rattle.zio_gang.specs.Trees.{sizes_of}
use Rattle.zio_report.specs.declared.report.Show.TheVariants.{Report}
use Rattle.zio_report.specs.Lines.{as_line}
use Rattle.zio_report.specs.Meanings.{IsMeaning, course_of, records_of, run_size_of, tops_of}
use Rattle.zio_report.specs.Reports.{Records, run_text}
use Rattle.zio_spelled.specs.declared.rounds.RoundJournal.{RoundJournal}
use Rattle.zio_spelled.specs.Laws.{requests_of}
use Rattle.zio_spelled.specs.Rounds.{IsSpelled}
use Rattle.zio_spelled.specs.Spelled.{ChoiceFits}
use Rattle.zio_audit.specs.declared.verdict.Verdict.TheVariants.{Yes}
use Rattle.zio_audit.specs.Putting.{IsPutIn, plain_lines}
use Rattle.zio_audit.specs.Verdicts.{Case, HasCompletions, HasLawfulEntries, IsReadAs, IsScriptIn, IsTextOf, IsVerdict, journal_spelled, rounds_under}

-- the text of these lines
abbrev pub text_of_lines : List Word → List ℕ
text_of_lines lines = flat_map as_line lines

-- the text of a report's lines that are none of the journal
abbrev pub plain_text : List ℕ → List ℕ
plain_text report = text_of_lines (plain_lines report)

-- the text of a script's run with this journal, where the journal is shown or not, and so the bytes of reads
abbrev pub text_of_run : Bool → Bool → Script → Images → Journal → List ℕ
text_of_run journal bytes script images j =
    run_text (Report journal bytes) (run_size_of script images) (records_of j) (course_of script images j).events
    (ending (course_of script images j).state)

-- A report is the text of the run with its journal exactly where it has the lines of its journals as a run prints them,
-- and its other lines are the text of the run without the journal.
abbrev pub PutInIsTheText : Type 0
PutInIsTheText =
    (c : Case) (script : Script) (journals : List RoundJournal) (bytes : Bool) → IsReadAs c script journals
    → let j : Journal = journal_spelled script c.before journals in
    (IsPutIn journals c.report × (plain_text c.report ≡ text_of_run false bytes script c.before j))
    ↔ (c.report ≡ text_of_run true bytes script c.before j)

-- the line has six blanks or more, as of the lines without the journal only that of a read has that shows its bytes
abbrev pub is_bytes_line : Word → Bool
is_bytes_line line = nat_le 6 (count_by (λ c. c == 32) line)

-- one of a report's lines without the journal shows bytes
abbrev pub shows_bytes : List ℕ → Bool
shows_bytes report = list_any is_bytes_line (plain_lines report)

-- A report is the text of the run with its journal, and with the bytes of reads or without, exactly where it has the lines
-- of its journals as a run prints them, and its other lines are the text of the run without the journal: that with the
-- bytes where one of these lines shows some.
abbrev pub TextIsDecided : Type 0
TextIsDecided =
    (c : Case) (script : Script) (journals : List RoundJournal) → IsReadAs c script journals
    → let j : Journal = journal_spelled script c.before journals in
    IsTextOf script c.before j c.report
    ↔ (IsPutIn journals c.report
    × (plain_text c.report ≡ text_of_run false (shows_bytes c.report) script c.before j))

-- ---- reading back

-- what a journal has of the round with this number
abbrev pub journal_at : Records → ℕ → RoundJournal
journal_at j number =
    record { entries = choices_in number j.choices; order = requests_of (completions_in number j.completions) }

-- what it has of each of so many rounds from this number on
abbrev pub journals_from : Records → ℕ → ℕ → List RoundJournal
journals_from j number zero = []
journals_from j number (suc rounds) = journal_at j number ∷ journals_from j (number + 1) rounds

-- what it has of each of its rounds
abbrev pub journals_of : Journal → List RoundJournal
journals_of j = journals_from (records_of j) 1 j.rounds

-- the numbers of a journal fit their types
pub record FitsTypes (j : Journal) : Type 0 where
  pub entries : AllByRecursion ChoiceFits j.places
  pub completions : AllByRecursion (λ (c : Completion). c.request < 2 ^ 32) j.completions

-- the journal is that of a script's run over these images
pub record IsRunWith (script : Script) (images : Images) (j : Journal) : Type 0 where
  pub places : HasLawfulEntries script images j
  pub rounds : j.rounds ≡ length (rounds_under script images j.places)
  pub completions : HasCompletions script images j

-- the journal that the text of a run with this journal spells
abbrev pub journal_back : Script → Images → Journal → Journal
journal_back script images j = journal_spelled script images (journals_of j)

-- What is read back of a run's text is what the run's journal has of each round. It gives the same course and the same
-- text, and is lawful too.
pub record IsReadBack (script : Script) (images : Images) (j : Journal) : Type 0 where
  pub spelled : (bytes : Bool) →
      IsSpelled (sizes_of (tops_of script images)) (text_of_run true bytes script images j) (journals_of j)
  pub course : course_of script images (journal_back script images j) ≡ course_of script images j
  pub entries : (round : ℕ) →
      choices_in round (journal_back script images j).places ≡ choices_in round j.places
  pub completions : (round : ℕ) →
      completions_in round (journal_back script images j).completions ≡ completions_in round j.completions
  pub text : (bytes : Bool) →
      text_of_run true bytes script images (journal_back script images j) ≡ text_of_run true bytes script images j
  pub lawful : IsRunWith script images (journal_back script images j)

-- the text of a script's run, whose numbers fit their types, is read back so
abbrev pub PrintedIsReadBack : Type 0
PrintedIsReadBack =
    (text : List ℕ) (script : Script) (images : Images) (j : Journal) → IsScriptOf text script
    → IsRunWith script images j → FitsTypes j → IsReadBack script images j

-- ---- headlines

-- The case is a headline's: its report is the text of a run of its script with this journal, whose numbers fit their
-- types, and the run left its images.
pub record IsHeadline (c : Case) : Type 0 where
  pub script : Script
  pub journal : Journal
  pub bytes : Bool
  pub code : ℕ
  pub script_is : IsScriptIn c script
  pub fits : FitsTypes journal
  pub means : IsMeaning (Report true bytes) script c.before journal c.after c.report code

-- yes is the answer exactly of such a case
abbrev pub YesIsAHeadline : Type 0
YesIsAHeadline = (c : Case) → IsVerdict c Yes ↔ IsHeadline c

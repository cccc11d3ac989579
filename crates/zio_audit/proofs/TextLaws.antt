-- The report of a script's run with its journal: where its lines are put in as a run prints them.
use Rattle.std.proofs.Common.{◌≡◌, List, Bool, true, false}
use Rattle.std.specs.Prelude.{◌↔◌, map}
use Rattle.zio_script.specs.declared.script.Script.{Script}
use Rattle.zio_gang.specs.Runs.{Course, ending}
use Rattle.zio_gang.specs.Trees.{sizes_of}
use Rattle.zio_report.specs.Meanings.{course_of, records_of, run_size_of, tops_of}
use Rattle.zio_types.specs.declared.journal.Journal.{Journal}
use Rattle.zio_spelled.specs.declared.rounds.RoundJournal.{RoundJournal}
use Rattle.zio_spelled.specs.Rounds.{lines_of_rounds}
use Rattle.zio_audit.specs.Putting.{IsPutIn, text_of}
use Rattle.zio_audit.specs.Texts.{plain_text, shows_bytes, text_of_run}
use Rattle.zio_audit.specs.Verdicts.{Case, IsReadAs, IsTextOf, entries_of, journal_spelled, rounds_under}
use Rattle.zio_audit.proofs.TextBytes.{bytes_told}
use Rattle.zio_audit.proofs.TextNames.{script_named, told_run}
use Rattle.zio_audit.proofs.TextReads.{put_in_is_text}
use Rattle.zio_audit.proofs.TextRounds.{spelled_in_rounds, spelled_texts}

-- a report is the text of the run with its journal exactly where the journal is put in and the other lines are those of the run
pub text_put_in : (c : Case) (script : Script) (journals : List RoundJournal) (bytes : Bool) → IsReadAs c script journals
    → (IsPutIn journals c.report × (plain_text c.report ≡ text_of_run false bytes script c.before (journal_spelled script c.before journals)))
    ↔ (c.report ≡ text_of_run true bytes script c.before (journal_spelled script c.before journals))
text_put_in c script journals bytes read =
    let j : Journal = journal_spelled script c.before journals in
    let course : Course = course_of script c.before j in
    put_in_is_text bytes (run_size_of script c.before) (records_of j) (map text_of journals) course.events (ending course.state) c.report
    (told_run script c.before j.places (script_named c.script script read.script_is.accepted))
    (spelled_texts (rounds_under script c.before (entries_of journals)) 1 journals
    (spelled_in_rounds (sizes_of (tops_of script c.before)) 1 (lines_of_rounds c.report) journals read.spelled.rounds))

-- whether it has the bytes of reads is told by the lines
pub text_decided : (c : Case) (script : Script) (journals : List RoundJournal) → IsReadAs c script journals
    → IsTextOf script c.before (journal_spelled script c.before journals) c.report
    ↔ (IsPutIn journals c.report × (plain_text c.report ≡ text_of_run false (shows_bytes c.report) script c.before (journal_spelled script c.before journals)))
text_decided c script journals read =
    let told = bytes_told c.script script c.before (journal_spelled script c.before journals) c.report read.script_is.accepted in
    let put = text_put_in c script journals (shows_bytes c.report) read in
    ((λ text. put.1 (told.0 text)), (λ both. told.1 (put.0 both)))

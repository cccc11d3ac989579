-- Laws of what an audit reads and answers.
use Rattle.std.specs.Prelude.{◌≡◌, ◌↔◌, ◌≤◌, ℕ, List}
use Rattle.zio_types.specs.declared.place.TopSize.{TopSize}
use Rattle.zio_script.specs.declared.script.Script.{Script}
use Rattle.zio_gang.specs.Journals.{choices_in}
use Rattle.zio_report.specs.Meanings.{course_of}
use Rattle.zio_spelled.specs.declared.rounds.RoundJournal.{RoundJournal}
use Rattle.zio_spelled.specs.Rounds.{IsSpelled}
use Rattle.zio_audit.specs.declared.verdict.Verdict.{Verdict}
use Rattle.zio_audit.specs.declared.verdict.Verdict.TheVariants.{Yes}
use Rattle.zio_audit.specs.Replays.{entries_in}
use Rattle.zio_audit.specs.Verdicts.{AreShaped, Case, HasCompletions, HasLawfulEntries, IsReadAs, IsTextOf, IsVerdict, entries_of, journal_spelled}

-- a report whose lines are of their shapes spells a journal of each of its rounds, on whatever tops
abbrev pub ShapedIsSpelled : Type 0
ShapedIsSpelled = (tops : List TopSize) (report : List ℕ) → AreShaped report → (journals : List RoundJournal) × IsSpelled tops report journals

-- and no other report does
abbrev pub SpelledIsShaped : Type 0
SpelledIsShaped = (tops : List TopSize) (report : List ℕ) (journals : List RoundJournal) → IsSpelled tops report journals → AreShaped report

-- the entries that a report spells of a round are those of its number among all that it spells
abbrev pub SpelledByRounds : Type 0
SpelledByRounds =
    (tops : List TopSize) (report : List ℕ) (journals : List RoundJournal) → IsSpelled tops report journals → (round : ℕ) → 1 ≤ round
    → choices_in round (entries_of journals) ≡ entries_in journals round

-- one script and one journal of which all stands
pub record IsRun (c : Case) : Type 0 where
  pub script : Script
  pub journals : List RoundJournal
  pub read : IsReadAs c script journals
  pub places : HasLawfulEntries script c.before (journal_spelled script c.before journals)
  pub completions : HasCompletions script c.before (journal_spelled script c.before journals)
  pub text : IsTextOf script c.before (journal_spelled script c.before journals) c.report
  pub images : c.after ≡ (course_of script c.before (journal_spelled script c.before journals)).state.images

-- yes is the answer exactly of such a case
abbrev pub YesIsARun : Type 0
YesIsARun = (c : Case) → IsVerdict c Yes ↔ IsRun c

-- a case has one answer at most
abbrev pub OneVerdict : Type 0
OneVerdict = (c : Case) (one other : Verdict) → IsVerdict c one → IsVerdict c other → one ≡ other

-- A run by the entries that a report spells, from its start to its end, and what is said of it.
use Rattle.std.specs.Prelude.{◌≡◌, ℕ, List, Bool, false, length, map, Option, None, Some}
use Rattle.std.specs.List.{AllByRecursion}
use Rattle.zio_types.specs.declared.journal.Journal.{Journal}
use Rattle.zio_outside.specs.declared.mem_disk.MemDisk.{MemDisk}
use Rattle.zio_outside.specs.Memory.{IsSoundDisk}
use Rattle.zio_outside.specs.Outside.{Appends}
use Rattle.zio_script.specs.declared.script.Script.{Script}
use Rattle.zio_cksum.specs.Images.{Images, Setting}
use Rattle.zio_gang.specs.declared.ending.Ending.{Ending}
use Rattle.zio_report.specs.declared.report.Show.{Show}
use Rattle.zio_report.specs.declared.report.Show.TheVariants.{Report}
use Rattle.zio_report.specs.Meanings.{IsWholeRun, run_size_of, tops_of}
use Rattle.zio_spelled.specs.declared.rounds.RoundJournal.{RoundJournal}
use Rattle.zio_course.specs.Course.{AreOfRounds}
use Rattle.zio_audit.specs.declared.seen.Seen.{Seen}
use Rattle.zio_audit.specs.declared.seen.Seen.TheVariants.{Images as SeenImages}
use Rattle.zio_audit.specs.declared.plain_matcher.PlainMatcher.{PlainMatcher}
use Rattle.zio_audit.specs.declared.verdict.Verdict.{Verdict}
use Rattle.zio_audit.specs.declared.verdict.Verdict.TheVariants.{Yes}
use Rattle.zio_audit.specs.Audits.{sizes_in}
use Rattle.zio_audit.specs.PlainMatching.{HoldsCompared, compared}
use Rattle.zio_audit.specs.Replays.{AreSpelledIn}
use Rattle.zio_audit.specs.Seen.{IsFirstOther, IsSeenIn, verdict_of}
use Rattle.zio_audit.specs.Texts.{plain_text, shows_bytes}
use Rattle.zio_audit.specs.Verdicts.{Case, IsReadAs, IsVerdict}

-- a runner over these disks that ran no round yet, whose tops and rows are the script's
pub record IsAtStart (script : Script) (s : Setting) (disks : List MemDisk) (last : ℕ) (stopped : Bool) : Type 0 where
  pub tops : (images : Images) → map length images ≡ sizes_in disks → s.tops ≡ tops_of script images
  pub rows : s.rows ≡ script.faults
  pub sound : AllByRecursion IsSoundDisk disks
  pub last_is : last ≡ 0
  pub runs : stopped ≡ false

-- The script was run to its end over these images, by the entries that a report spells, and what was printed came to the
-- matcher.
pub record HasReplayed (show : Show) (script : Script) (journals : List RoundJournal) (before after : Images) (old new : PlainMatcher) (j : Journal) : Type 0 where
  pub end : Ending
  pub printed : List ℕ
  pub whole : IsWholeRun show (run_size_of script before) script before j after printed end
  pub written : Appends (HoldsCompared old) (HoldsCompared new) printed
  pub entries : AreOfRounds (AreSpelledIn journals) j.rounds j.places

-- The same of a case, without the lines of the journal: what came is compared with the plain text of its report.
pub record HasEnded (c : Case) (script : Script) (journals : List RoundJournal) (plain : PlainMatcher) (j : Journal) (after : Images) : Type 0 where
  pub end : Ending
  pub printed : List ℕ
  pub whole : IsWholeRun (Report false (shows_bytes c.report)) (run_size_of script c.before) script c.before j after printed end
  pub came : HoldsCompared plain (compared (plain_text c.report) printed)
  pub entries : AreOfRounds (AreSpelledIn journals) j.rounds j.places

-- this is the answer for each case with this report and these images after whose run ended so
abbrev pub IsJudged : Script → List ℕ → List RoundJournal → PlainMatcher → Journal → Images → Images → Verdict → Type 0
IsJudged script report journals plain j left after verdict =
    (c : Case) → c.report ≡ report → c.after ≡ after → IsReadAs c script journals → HasEnded c script journals plain j left
    → IsVerdict c verdict

-- and this is where the reason was seen
abbrev pub IsSeenOf : Script → List ℕ → List RoundJournal → PlainMatcher → Journal → Images → Images → Seen → Type 0
IsSeenOf script report journals plain j left after seen =
    (c : Case) → c.report ≡ report → c.after ≡ after → IsReadAs c script journals → HasEnded c script journals plain j left
    → IsSeenIn c seen

-- What is said of such a run before the images after are looked at: no, for a reason that was seen there; or, where none
-- was, yes where they are those that it left, and else no, seen where the first byte is another.
abbrev pub IsToldOf : Script → List ℕ → List RoundJournal → PlainMatcher → Journal → Option Seen → Type 0
IsToldOf script report journals plain j (Some seen) = (left after : Images) →
    IsJudged script report journals plain j left after (verdict_of (Some seen))
    × IsSeenOf script report journals plain j left after seen
IsToldOf script report journals plain j None = (left after : Images) →
    (after ≡ left → IsJudged script report journals plain j left after Yes)
    × ((image byte : ℕ) → IsFirstOther after left image byte
    → IsJudged script report journals plain j left after (verdict_of (Some (SeenImages image byte)))
    × IsSeenOf script report journals plain j left after (SeenImages image byte))

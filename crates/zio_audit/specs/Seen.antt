-- Where an audit sees the first reason to say no.
use Rattle.std.specs.Prelude.{◌≡◌, ◌≢◌, ◌≤◌, ◌<◌, ◌+◌, ℕ, List, length, map, take, false, Option, None, Some, option_map, slice_get}
use Rattle.std.specs.List.{AllByRecursion, list_any, slice_split}
use Rattle.zio_outside.specs.Memory.{disk_image}
use Rattle.zio_script.specs.declared.script.Script.{Script as ScriptRead}
use Rattle.zio_script.specs.declared.script.ScriptFault.{ScriptFault}
use Rattle.zio_script.specs.Grammar.{IsFaultOf, IsScriptOf}
use Rattle.zio_script.specs.Words.{Word, lines_of}
use Rattle.zio_cksum.specs.Images.{Images as Leaves}
use Rattle.zio_report.specs.Meanings.{course_of}
use Rattle.zio_spelled.specs.Spelled.{first_of, is_journal, is_round}
use Rattle.zio_command.specs.Tops.{IsFirstMissing, leaves_of}
use Rattle.zio_audit.specs.declared.seen.Judged.{Judged}
use Rattle.zio_audit.specs.declared.seen.Judged.TheVariants.{No as OfReason, Leaves as OfDisks}
use Rattle.zio_audit.specs.declared.seen.Seen.{Seen}
use Rattle.zio_audit.specs.declared.seen.Seen.TheVariants.{Script, Leaf, Lines, Places, Completions, Text, Images}
use Rattle.zio_audit.specs.declared.verdict.Verdict.{Verdict}
use Rattle.zio_audit.specs.declared.verdict.Verdict.TheVariants.{Yes, No}
use Rattle.zio_audit.specs.declared.verdict.Why.{Why}
use Rattle.zio_audit.specs.declared.verdict.Why.TheVariants.{Script as OfScript, Lines as OfLines, Places as OfPlaces, Completions as OfCompletions, Text as OfText, Images as OfImages}
use Rattle.zio_audit.specs.Verdicts.{Case, IsShaped, IsVerdict, OfRun, why_number}

-- ---- the reason

abbrev pub why_of : Seen → Why
why_of (Script line) = OfScript
why_of (Leaf leaf) = OfScript
why_of (Lines line) = OfLines
why_of (Places round) = OfPlaces
why_of (Completions round) = OfCompletions
why_of (Text line) = OfText
why_of (Images image byte) = OfImages

-- yes where no reason was seen, else no with its number
abbrev pub verdict_of : Option Seen → Verdict
verdict_of None = Yes
verdict_of (Some seen) = No (why_number (why_of seen))

-- ---- lines of a report

-- lines whose lines of the journal are of their shapes, and none of which stands before every round
pub record AreShapedLines (lines : List Word) : Type 0 where
  pub before : list_any is_journal (first_of (slice_split is_round lines)) ≡ false
  pub each : AllByRecursion IsShaped lines

-- The report has a line of this number, from 1: the lines above it are shaped, and with it they aren't.
pub record IsFirstFaulty (report : List ℕ) (number : ℕ) : Type 0 where
  pub above : ℕ
  pub number_is : number ≡ above + 1
  pub there : number ≤ length (lines_of report)
  pub right : AreShapedLines (take above (lines_of report))
  pub wrong : ¬ AreShapedLines (take number (lines_of report))

-- the number is that of a line of the report, from 1, or of the line behind its last
pub record IsLineOrNext (report : List ℕ) (number : ℕ) : Type 0 where
  pub least : 1 ≤ number
  pub most : number ≤ length (lines_of report) + 1

-- ---- images

-- the byte there, if there is one
abbrev pub byte_at : Leaves → ℕ → ℕ → Option (Option ℕ)
byte_at images image byte = option_map (λ (bytes : List ℕ). slice_get bytes byte) (slice_get images image)

-- this is the first byte that the two don't both have there
pub record IsFirstOtherByte (one other : List ℕ) (byte : ℕ) : Type 0 where
  pub above : (k : ℕ) → k < byte → slice_get one k ≡ slice_get other k
  pub here : slice_get one byte ≢ slice_get other byte

-- This is the first image in which these images differ, and its first byte.
pub record IsFirstOther (some others : Leaves) (image byte : ℕ) : Type 0 where
  pub images : take image some ≡ take image others
  pub bytes : (k : ℕ) → k < byte → byte_at some image k ≡ byte_at others image k
  pub other : byte_at some image byte ≢ byte_at others image byte

-- ---- all of them

-- The place is where the reason was first seen, as far as it is told. Of the round of why 4 nothing is said.
abbrev pub IsSeenIn : Case → Seen → Type 0
IsSeenIn c (Script line) = (fault : ScriptFault) × (fault.line ≡ line) × IsFaultOf c.script fault
IsSeenIn c (Leaf leaf) = (script : ScriptRead) × IsScriptOf c.script script × IsFirstMissing (length c.before) (leaves_of script.tops) leaf
IsSeenIn c (Lines line) = IsFirstFaulty c.report line
IsSeenIn c (Places round) = 1 ≤ round
IsSeenIn c (Completions round) = Unit {0}
IsSeenIn c (Text line) = IsLineOrNext c.report line
IsSeenIn c (Images image byte) = OfRun c (λ script images j. IsFirstOther c.after (course_of script images j).state.images image byte)

-- ---- before the images after are looked at

-- the images after decide: yes where they are these, else no, seen where the first byte is another
pub record AreJudgedBy (c : Case) (left : Leaves) : Type 0 where
  pub same : c.after ≡ left → IsVerdict c Yes
  pub other : (image byte : ℕ) → IsFirstOther c.after left image byte
      → IsVerdict c (verdict_of (Some (Images image byte))) × IsSeenIn c (Images image byte)

-- what is said of the case so far: no, for a reason that is seen there, or what the images after decide
abbrev pub IsJudgedAs : Case → Judged → Type 0
IsJudgedAs c (OfReason seen) = IsVerdict c (verdict_of (Some seen)) × IsSeenIn c seen
IsJudgedAs c (OfDisks disks) = AreJudgedBy c (map disk_image disks.items)

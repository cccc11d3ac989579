-- What a line of a report tells, by the text that is printed of it. docs/FORMATS.md, "Report".
use Rattle.std.specs.Prelude.{◌≡◌, ℕ, List, ◌++◌, Bool, true, false, ◌&&◌, ◌||◌, nat_eq, decimal, codes}
use Rattle.std.specs.List.{AllZip, starts_with}
use Rattle.zio_types.specs.declared.place.TopSize.{TopSize}
use Rattle.zio_types.specs.declared.request.Kind.{Kind}
use Rattle.zio_types.specs.declared.request.Kind.TheVariants.{Null, Read, Write, Free, Claim}
use Rattle.zio_script.specs.declared.script.Script.{Script}
use Rattle.zio_script.specs.Grammar.{IsScriptOf}
use Rattle.zio_script.specs.Words.{is_empty, lines_of}
use Rattle.zio_report.specs.declared.report.RoundHead.{RoundHead}
use Rattle.zio_report.specs.Lines.{batch_text, errno_text, kind_text, name_text, spaced, sums_text}
use Rattle.zio_spelled.specs.Spelled.{IsOrder, IsTake}
use Rattle.zio_told.specs.declared.told.Line.{Line}
use Rattle.zio_told.specs.declared.told.Line.TheVariants.{Plain as PlainLine, Take, Order}
use Rattle.zio_told.specs.declared.told.Plain.{Plain}
use Rattle.zio_told.specs.declared.told.Plain.TheVariants.{Pool, Round, Request, Held, End}
use Rattle.zio_told.specs.declared.told.RequestLine.{RequestLine}
use Rattle.zio_told.specs.declared.told.Outcome.{Outcome}
use Rattle.zio_told.specs.declared.told.Outcome.TheVariants.{Suspended, Failed, Done, Sized, Read as ReadBytes}

-- the head of a round
abbrev pub head_words : RoundHead → List ℕ
head_words head =
    codes "round " ++ decimal head.round ++ spaced (batch_text head.batch) ++ codes " point " ++ decimal head.point

-- what became of a request
abbrev pub outcome_words : Outcome → List ℕ
outcome_words Suspended = codes " suspended"
outcome_words (Failed e) = spaced (errno_text e)
outcome_words Done = codes " ok"
outcome_words (Sized size) = codes " ok " ++ decimal size
outcome_words (ReadBytes size sums) = codes " ok " ++ decimal size ++ spaced (sums_text sums)

-- the line of a request
abbrev pub request_words : RequestLine → List ℕ
request_words line =
    decimal line.number ++ spaced (kind_text line.kind) ++ name_text line.name ++ outcome_words line.outcome

-- a line that isn't one of the journal
abbrev pub plain_words : Plain → List ℕ
plain_words (Pool tops images) = codes "pool " ++ decimal tops ++ spaced (decimal images)
plain_words (Round head) = head_words head
plain_words (Request line) = request_words line
plain_words (Held batch) = codes "held " ++ decimal batch
plain_words (End code) = codes "end " ++ decimal code

-- behind the sums of a read its bytes may stand
abbrev pub follows_outcome : Outcome → List ℕ → Bool
follows_outcome Suspended tail = is_empty tail
follows_outcome (Failed e) tail = is_empty tail
follows_outcome Done tail = is_empty tail
follows_outcome (Sized size) tail = is_empty tail
follows_outcome (ReadBytes size sums) tail = is_empty tail || starts_with nat_eq tail (codes " data ")

-- a request of this kind may end so: a write alone tells a size without sums, and a read its sums
abbrev pub suits : Kind → Outcome → Bool
suits kind Suspended = true
suits kind (Failed e) = true
suits Null Done = true
suits Read Done = false
suits Write Done = false
suits Free Done = true
suits Claim Done = true
suits Null (Sized size) = false
suits Read (Sized size) = false
suits Write (Sized size) = true
suits Free (Sized size) = false
suits Claim (Sized size) = false
suits Null (ReadBytes size sums) = false
suits Read (ReadBytes size sums) = true
suits Write (ReadBytes size sums) = false
suits Free (ReadBytes size sums) = false
suits Claim (ReadBytes size sums) = false

-- what may stand behind these words
abbrev pub may_follow : Plain → List ℕ → Bool
may_follow (Pool tops images) tail = is_empty tail
may_follow (Round head) tail = is_empty tail
may_follow (Request line) tail = suits line.kind line.outcome && follows_outcome line.outcome tail
may_follow (Held batch) tail = is_empty tail
may_follow (End code) tail = is_empty tail

-- the line is printed of this
pub record IsPlainLine (line : List ℕ) (plain : Plain) : Type 0 where
  pub tail : List ℕ
  pub text : line ≡ plain_words plain ++ tail
  pub may : may_follow plain tail ≡ true

-- the line tells this; that of an entry doesn't tell its round, which counts as 0
abbrev pub IsLine : List TopSize → List ℕ → Line → Type 0
IsLine tops line (PlainLine plain) = IsPlainLine line plain
IsLine tops line (Take choice) = IsTake tops 0 line choice
IsLine tops line (Order numbers) = IsOrder line numbers

-- the text is a script
pub record IsAccepted (text : List ℕ) : Type 0 where
  pub script : Script
  pub is : IsScriptOf text script

-- each line of the text tells something, of a pool of these tops
pub record IsTold (text : List ℕ) : Type 0 where
  pub tops : List TopSize
  pub told : List Line
  pub each : AllZip (IsLine tops) (lines_of text) told

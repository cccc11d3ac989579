-- How an audit ends: for each code its cause and what was written.
--
-- The order of the causes: the words, fetching the files one after another, their sizes, reading them, the verdict,
-- writing.
use Rattle.std.specs.Prelude.{◌≡◌, ◌⊎◌, ◌++◌, ℕ, List, Option, Result, Ok, Err, decimal, codes}
use Rattle.zio_outside.specs.Outside.{Appends, AppendsFront, Keeps, Rose}
use Rattle.zio_report.specs.Lines.{as_line}
use Rattle.zio_audit.specs.declared.seen.Seen.{Seen}
use Rattle.zio_audit.specs.declared.verdict.Verdict.{Verdict}
use Rattle.zio_audit.specs.declared.verdict.Verdict.TheVariants.{Yes, No}
use Rattle.zio_audit.specs.Audits.{MayBeAudited}
use Rattle.zio_audit.specs.Verdicts.{Case, IsVerdict}
use Rattle.zio_command.specs.Seen.{ShelfSeen, SinkSeen}
use Rattle.zio_audit_run.specs.declared.files.AuditFault.{AuditFault}
use Rattle.zio_audit_run.specs.declared.files.AuditFault.TheVariants.{File, Device, Memory}
use Rattle.zio_audit_run.specs.Causes.{IsFileCause, WasJudged, WasSeen, WasStopped}
use Rattle.zio_audit_run.specs.Files.{IsUnfit, sizes_in}

-- ---- texts

-- the file of this number can't be fetched, or is unfit by its size
abbrev pub files_line : ℕ → List ℕ
files_line k = as_line (codes "files " ++ decimal k)

abbrev pub verdict_line : Verdict → List ℕ
verdict_line Yes = codes "yes\n"
verdict_line (No why) = as_line (codes "no " ++ decimal why)

-- ---- codes

abbrev pub verdict_code : Verdict → ℕ
verdict_code Yes = 0
verdict_code (No why) = 10

-- the verdict was told
abbrev pub IsTold : ℕ → Type 0
IsTold code = (code ≡ 0) ⊎ (code ≡ 10)

abbrev pub IsAuditCode : ℕ → Type 0
IsAuditCode code = IsTold code ⊎ (code ≡ 1) ⊎ (code ≡ 3) ⊎ (code ≡ 6) ⊎ (code ≡ 7) ⊎ (code ≡ 8)

-- ---- what was written

-- the sink took the line
pub record WasWritten (line : List ℕ) (old new : SinkSeen) : Type 0 where
  pub written : Appends old.holds new.holds line
  pub steady : new.faults ≡ old.faults

-- the sink failed on the line, and holds a front of it
pub record WasCut (line : List ℕ) (old new : SinkSeen) : Type 0 where
  pub front : AppendsFront old.holds new.holds line
  pub rose : Rose old.faults new.faults

-- ---- how an audit ends

-- how the audit of the files under these names came out, before a line of it was written
abbrev pub CameOut : List (List ℕ) → ShelfSeen → ShelfSeen → Result (Option Seen) AuditFault → Type 0
CameOut names old new (Ok seen) = WasSeen names seen old new
CameOut names old new (Err (File k)) = IsFileCause names old new k
CameOut names old new (Err Device) = WasStopped names old new
CameOut names old new (Err Memory) = Unit {0}

-- How the audit of the files under these names ends. The verdict was told, with code 0 or 10; a file couldn't be fetched
-- or is unfit by its size, with code 3; the sink failed on the line of the one or of the other, with code 6; a disk
-- failed in reading, with code 7; or memory was wanting, with code 8.
pub data AuditEnds (names : List (List ℕ)) (old_sink new_sink : SinkSeen) (old new : ShelfSeen) (code : ℕ)
    : Type 0 where
  Judged : (verdict : Verdict) → code ≡ verdict_code verdict → WasJudged names verdict old new
      → WasWritten (verdict_line verdict) old_sink new_sink → AuditEnds names old_sink new_sink old new code
  Blamed : (k : ℕ) → code ≡ 3 → IsFileCause names old new k
      → WasWritten (files_line k) old_sink new_sink → AuditEnds names old_sink new_sink old new code
  JudgedCut : (verdict : Verdict) → code ≡ 6 → WasJudged names verdict old new
      → WasCut (verdict_line verdict) old_sink new_sink → AuditEnds names old_sink new_sink old new code
  BlamedCut : (k : ℕ) → code ≡ 6 → IsFileCause names old new k
      → WasCut (files_line k) old_sink new_sink → AuditEnds names old_sink new_sink old new code
  Stopped : code ≡ 7 → WasStopped names old new
      → Keeps old_sink.holds new_sink.holds → AuditEnds names old_sink new_sink old new code
  Wanting : code ≡ 8
      → Keeps old_sink.holds new_sink.holds → AuditEnds names old_sink new_sink old new code

-- ---- what is due

-- For these files this code and this line are due: of the first file that is unfit by its size, or, where the case may
-- be audited, of its verdict.
pub data IsDue (c : Case) (code : ℕ) (line : List ℕ) : Type 0 where
  OfFile : (k : ℕ) → IsUnfit (sizes_in c) k → code ≡ 3 → line ≡ files_line k → IsDue c code line
  OfVerdict : (verdict : Verdict) → MayBeAudited c → IsVerdict c verdict → code ≡ verdict_code verdict
      → line ≡ verdict_line verdict → IsDue c code line

-- Why an audit ends as it does, by what is seen of the shelf before and after.
use Rattle.std.specs.Prelude.{◌≡◌, ◌<◌, ◌⊎◌, ℕ, List, length, map, Option, IfSome}
use Rattle.zio_outside.specs.Outside.{Rose}
use Rattle.zio_audit.specs.declared.seen.Seen.{Seen}
use Rattle.zio_audit.specs.declared.verdict.Verdict.{Verdict}
use Rattle.zio_audit.specs.Audits.{MayBeAudited}
use Rattle.zio_audit.specs.Seen.{IsSeenIn, verdict_of}
use Rattle.zio_audit.specs.Verdicts.{Case, IsVerdict}
use Rattle.zio_command.specs.Headline.{TellEach}
use Rattle.zio_command.specs.Outcomes.{counted_times}
use Rattle.zio_command.specs.Seen.{ShelfSeen}
use Rattle.zio_audit_run.specs.Files.{AreFit, IsUnfit, files_in, last_or}

-- the fetch of this file failed, after those of the files before it
pub record IsUnfetched (names : List (List ℕ)) (old new : ShelfSeen) (k : ℕ) : Type 0 where
  pub there : k < length names
  pub rose : Rose old.faults new.faults
  pub fetches : new.fetches ≡ counted_times k old.fetches

-- All files were fetched, and have these sizes. The shelf tells at least the last one.
pub record AreMeasured (names : List (List ℕ)) (sizes : List ℕ) (old new : ShelfSeen) : Type 0 where
  pub steady : new.faults ≡ old.faults
  pub fetches : new.fetches ≡ counted_times (length names) old.fetches
  pub all : length sizes ≡ length names
  pub last : new.last_size ≡ last_or old.last_size sizes
  pub told : (files : List (List ℕ)) → old.tells → TellEach old.image names files → sizes ≡ map length files

-- all files were fetched, and this is the first that is unfit by its size
pub record IsOutOfPlace (names : List (List ℕ)) (old new : ShelfSeen) (k : ℕ) : Type 0 where
  pub sizes : List ℕ
  pub measured : AreMeasured names sizes old new
  pub unfit : IsUnfit sizes k

-- the two causes for which a file is blamed
abbrev pub IsFileCause : List (List ℕ) → ShelfSeen → ShelfSeen → ℕ → Type 0
IsFileCause names old new k = IsUnfetched names old new k ⊎ IsOutOfPlace names old new k

-- all files were fetched and are fit, and a disk failed in reading
pub record WasStopped (names : List (List ℕ)) (old new : ShelfSeen) : Type 0 where
  pub sizes : List ℕ
  pub measured : AreMeasured names sizes old new
  pub fit : AreFit sizes
  pub rose : Rose old.disk_faults new.disk_faults

-- all files were fetched and are fit, and these are their bytes
pub record WereRead (names files : List (List ℕ)) (old new : ShelfSeen) : Type 0 where
  pub measured : AreMeasured names (map length files) old new
  pub fit : AreFit (map length files)
  pub steady : new.disk_faults ≡ old.disk_faults
  pub told : old.tells → TellEach old.image names files

-- this is the verdict over the bytes of the files
pub record WasJudged (names : List (List ℕ)) (verdict : Verdict) (old new : ShelfSeen) : Type 0 where
  pub read : Case
  pub files : WereRead names (files_in read) old new
  pub may : MayBeAudited read
  pub is : IsVerdict read verdict

-- the verdict over the bytes of the files says no for this reason, which was first seen there, or yes where there is none
pub record WasSeen (names : List (List ℕ)) (seen : Option Seen) (old new : ShelfSeen) : Type 0 where
  pub judged : WasJudged names (verdict_of seen) old new
  pub place : IfSome seen (IsSeenIn judged.read)

-- Requests that may fail, and such that may not.
use Rattle.std.specs.Prelude.{[], ◌∷◌, codes, replicate, Bool, true, false, Option, Some, None}
use Rattle.zio_types.specs.declared.error.Errno.{Errno}
use Rattle.zio_types.specs.declared.error.Errno.TheVariants.{Io}
use Rattle.zio_types.specs.declared.request.Prio.TheVariants.{SyncRead}
use Rattle.zio_script.specs.declared.script.Request.{Request}
use Rattle.zio_script.specs.declared.script.Work.{Work}
use Rattle.zio_script.specs.declared.script.Work.TheVariants.{Null, Read, Claim}
use Rattle.zio_gang.specs.Attempts.{Pending}
use Rattle.zio_heal.specs.Discipline.{IsUnfailing, MayNotFail}

abbrev pub flagged : Bool → Work → Request
flagged canfail work = record { number = 1; work = work; under = None; canfail = canfail }

abbrev pub ReadMayNotFail : Type 0
ReadMayNotFail = MayNotFail (flagged false (Read (codes "x") SyncRead))

abbrev pub FlaggedReadMay : Type 0
FlaggedReadMay = MayNotFail (flagged true (Read (codes "x") SyncRead)) → ⊥

-- a claim may fail whatever its flag says
abbrev pub ClaimMayFail : Type 0
ClaimMayFail = MayNotFail (flagged false (Claim (codes "x") (replicate 128 0))) → ⊥

-- a null whose only child finished with this error or none
abbrev pub over_child : Option Errno → Pending
over_child error = record {
  request = flagged false Null;
  birth = 1;
  block = None;
  kept = record { number = 2; error = error; pointer = None } ∷ [];
}

abbrev pub GoodChildIsKept : Type 0
GoodChildIsKept = IsUnfailing (over_child None)

abbrev pub BadChildIsnt : Type 0
BadChildIsnt = IsUnfailing (over_child (Some Io)) → ⊥

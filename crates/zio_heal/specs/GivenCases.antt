-- Copies that hold what was given, and a stale one that nobody read.
use Rattle.std.specs.Prelude.{◌≡◌, ℕ, List, [], ◌∷◌, replicate, true, false, Some, None, Ok, Err}
use Rattle.zio_types.specs.declared.error.Errno.TheVariants.{Io}
use Rattle.zio_types.specs.declared.place.Place.{Place}
use Rattle.zio_blkptr.specs.declared.pointer.SumKind.TheVariants.{Off}
use Rattle.zio_faults.specs.declared.table.FaultKind.TheVariants.{Eio}
use Rattle.zio_faults.specs.declared.table.On.TheVariants.{Write as OnWrite}
use Rattle.zio_script.specs.declared.script.Failmode.TheVariants.{Wait}
use Rattle.zio_script.specs.declared.script.Item.TheVariants.{Go, Clear}
use Rattle.zio_script.specs.declared.script.Script.{Script}
use Rattle.zio_cksum.specs.Images.{Images}
use Rattle.zio_trace.specs.RoundExamples.{mirror_of_two}
use Rattle.zio_trace.specs.RoundTraces.{is_single_or_piece}
use Rattle.zio_trace.specs.RunTraces.{in_round, whole_trace}
use Rattle.zio_trace.specs.Tasks.{BodyOf, Got, KeptAs, ReadCopies, Task, WriteCopies, Wrote}
use Rattle.zio_trace.specs.TraceExamples.{finds_x, place_of_x, pointer_of_x, two_sectors, written_and_read}
use Rattle.zio_heal.specs.Given.{AcceptsWhatWasGiven, AreTrueReads, Deeds, IsTrueRead, given_in}
use Rattle.zio_heal.specs.HealedCases.{writes_x}

-- ---- what was given

-- a write at these places, and what it came to
abbrev pub wrote_at : List Place → ℕ → Deeds → Deeds
wrote_at places byte ds =
    in_round mirror_of_two (record { op = WriteCopies (replicate 512 byte) places; answer = Wrote None }) ∷ ds

abbrev pub other_place : Place
other_place = record { top = 0; sector = 0; sectors = 1 }

abbrev pub LastWriteCounts : Type 0
LastWriteCounts =
    given_in (wrote_at (place_of_x ∷ []) 65 (wrote_at (place_of_x ∷ []) 66 (wrote_at (other_place ∷ []) 67 [])))
    (place_of_x ∷ [])
    ≡ Some (replicate 512 66)

abbrev pub NothingWasGiven : Type 0
NothingWasGiven = given_in (wrote_at (other_place ∷ []) 65 []) (place_of_x ∷ []) ≡ None

-- all places of the block, in their order
abbrev pub AllPlacesCount : Type 0
AllPlacesCount =
    (given_in (wrote_at (place_of_x ∷ other_place ∷ []) 65 []) (place_of_x ∷ []) ≡ None)
    × (given_in (wrote_at (place_of_x ∷ other_place ∷ []) 65 []) (other_place ∷ place_of_x ∷ []) ≡ None)
    × (given_in (wrote_at (place_of_x ∷ other_place ∷ []) 65 []) (place_of_x ∷ other_place ∷ [])
    ≡ Some (replicate 512 65))

-- ---- reads

abbrev pub reading_x : Task
reading_x = ReadCopies true (BodyOf pointer_of_x) 512 (place_of_x ∷ [])

abbrev pub GivenBytesAreTrue : Type 0
GivenBytesAreTrue = IsTrueRead (wrote_at (place_of_x ∷ []) 65 []) reading_x (Got (Ok (replicate 512 65)))

abbrev pub OtherBytesArent : Type 0
OtherBytesArent = IsTrueRead (wrote_at (place_of_x ∷ []) 65 []) reading_x (Got (Ok (replicate 512 66))) → ⊥

abbrev pub BytesOfNobodyArent : Type 0
BytesOfNobodyArent = IsTrueRead [] reading_x (Got (Ok (replicate 512 65))) → ⊥

-- nothing is said of a read that failed, nor of a header, which is compared with the kept bytes
abbrev pub ErrorsAreTrue : Type 0
ErrorsAreTrue = IsTrueRead [] reading_x (Got (Err Io))

abbrev pub HeadersAreCompared : Type 0
HeadersAreCompared =
    IsTrueRead [] (ReadCopies true (KeptAs (Some (replicate 512 65))) 512 (place_of_x ∷ []))
    (Got (Ok (replicate 512 65)))

-- ---- runs

-- a block is written and read, and read once more at the end
abbrev pub RunAcceptsWhatWasGiven : Type 0
RunAcceptsWhatWasGiven = AcceptsWhatWasGiven written_and_read two_sectors finds_x

-- A mirror of two leaves, of which the first refuses the write. Without a sum its old bytes count as a good copy.
abbrev pub stale_copy : Script
stale_copy = record {
  failmode = Wait;
  tops = record { leaves = 0 ∷ 1 ∷ []; unit = 1 } ∷ [];
  faults = record { leaf = 0; on = OnWrite; at = 0; len = 1024; from = 0; until = 1; kind = Eio; first = false } ∷ [];
  items = writes_x Off ∷ Go ∷ Clear ∷ [];
}

abbrev pub two_leaves : Images
two_leaves = replicate 1024 0 ∷ replicate 1024 0 ∷ []

-- nobody reads the block in the run
abbrev pub NobodyReadIt : Type 0
NobodyReadIt = AreTrueReads [] (whole_trace is_single_or_piece stale_copy two_leaves finds_x)

-- but whoever reads it in the end gets the old bytes
abbrev pub LastReadsCount : Type 0
LastReadsCount = AcceptsWhatWasGiven stale_copy two_leaves finds_x → ⊥

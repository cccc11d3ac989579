-- Copies on a leaf of two sectors, and operations that spare them or don't.
use Rattle.std.specs.Prelude.{ℕ, List, [], ◌∷◌, replicate, false, None, Ok, Err}
use Rattle.zio_types.specs.declared.error.Errno.TheVariants.{Io}
use Rattle.zio_faults.specs.declared.table.FaultKind.TheVariants.{Eio, Flip}
use Rattle.zio_faults.specs.declared.table.On.TheVariants.{Read as OnRead, Write as OnWrite, Any as OnAny}
use Rattle.zio_faults.specs.declared.table.Row.{Row}
use Rattle.zio_cksum.specs.Frames.{spots_of}
use Rattle.zio_cksum.specs.Images.{Setting, Spot}
use Rattle.zio_trace.specs.Leaves.{Store}
use Rattle.zio_trace.specs.Tasks.{Find, Found, Got, Leaf, Task, Value, WriteCopies, Wrote}
use Rattle.zio_trace.specs.TraceExamples.{ask_of_x, copy_of_x, next_place, place_of_x, two_sectors}
use Rattle.zio_heal.specs.Copies.{AreElsewhere, HasCopy, IsPastFaults, StoresAsGiven}
use Rattle.zio_heal.specs.GivenCases.{reading_x}
use Rattle.zio_heal.specs.HealedCases.{faulty}
use Rattle.zio_heal.specs.Spared.{SparesBy}

-- ---- copies

-- the second sector begins with zeros
abbrev pub ZerosAreThere : Type 0
ZerosAreThere = HasCopy (copy_of_x ∷ []) (replicate 3 0) two_sectors

abbrev pub OnesArent : Type 0
OnesArent = HasCopy (copy_of_x ∷ []) (1 ∷ []) two_sectors → ⊥

abbrev pub NoSpotNoCopy : Type 0
NoSpotNoCopy = HasCopy [] [] two_sectors → ⊥

-- so many bytes of leaf 0 from there on
abbrev pub spot : ℕ → ℕ → Spot
spot at span = record { leaf = 0; at = at; span = span }

abbrev pub NeighboursAreElsewhere : Type 0
NeighboursAreElsewhere = AreElsewhere (copy_of_x ∷ []) (spot 0 512 ∷ spot 1024 512 ∷ [])

abbrev pub OneByteMeets : Type 0
OneByteMeets = AreElsewhere (copy_of_x ∷ []) (spot 0 513 ∷ []) → ⊥

-- ---- settings

-- one top of leaf 0, these rows and this resume point
abbrev pub setting_at : ℕ → List Row → Setting
setting_at point rows = record {
  tops = record { leaves = 0 ∷ []; sectors = 2; unit = 1 } ∷ [];
  rows = rows;
  point = point;
}

abbrev pub FailedWritesStoreNothing : Type 0
FailedWritesStoreNothing = StoresAsGiven (setting_at 0 (faulty OnWrite Eio 9 ∷ faulty OnRead Flip 9 ∷ []))

abbrev pub TurnedWritesStoreOthers : Type 0
TurnedWritesStoreOthers = StoresAsGiven (setting_at 0 (faulty OnAny Flip 9 ∷ [])) → ⊥

abbrev pub RowsArePast : Type 0
RowsArePast = IsPastFaults (setting_at 1 (faulty OnAny Eio 1 ∷ []))

abbrev pub RowStillHolds : Type 0
RowStillHolds = IsPastFaults (setting_at 1 (faulty OnAny Eio 2 ∷ [])) → ⊥

-- ---- operations beside a copy of 512 bytes in the second sector

abbrev pub spares : Task → Value → Type 0
spares o value =
    SparesBy (λ leaf. 1024) (setting_at 0 []) (spots_of (setting_at 0 []) (place_of_x ∷ [])) (replicate 512 65) o value

abbrev pub WriteElsewhereSpares : Type 0
WriteElsewhereSpares = spares (WriteCopies (replicate 512 66) (next_place ∷ [])) (Wrote None)

-- even of the same bytes: a block is written once
abbrev pub WriteOverItDoesnt : Type 0
WriteOverItDoesnt = spares (WriteCopies (replicate 512 65) (place_of_x ∷ [])) (Wrote None) → ⊥

abbrev pub TrueReadSpares : Type 0
TrueReadSpares = spares reading_x (Got (Ok (replicate 512 65)))

abbrev pub FailedReadSpares : Type 0
FailedReadSpares = spares reading_x (Got (Err Io))

-- it may have repaired the copy with other bytes
abbrev pub OtherReadDoesnt : Type 0
OtherReadDoesnt = spares reading_x (Got (Ok (replicate 512 66))) → ⊥

abbrev pub SpaceActsSpare : Type 0
SpaceActsSpare = spares (Find ask_of_x) (Found None)

-- single operations don't stand in a trace of pieces
abbrev pub SingleWriteDoesnt : Type 0
SingleWriteDoesnt = spares (Leaf (Store false (replicate 512 66) (spot 0 512))) (Got (Ok [])) → ⊥

-- Trees that can't go on: how often they are tried, what waits with them, and how a clear resumes them.
use Rattle.std.specs.Prelude.{◌≡◌, List, [], ◌∷◌, ◌++◌, codes, map, replicate}
use Rattle.zio_types.specs.declared.journal.Role.TheVariants.{Body, Head}
use Rattle.zio_types.specs.Choices.{Choice}
use Rattle.zio_blkptr.specs.declared.pointer.SumKind.TheVariants.{Off}
use Rattle.zio_faults.specs.declared.table.FaultKind.TheVariants.{Eio, Gone}
use Rattle.zio_faults.specs.declared.table.On.TheVariants.{Read as OnRead, Write as OnWrite}
use Rattle.zio_script.specs.declared.script.Failmode.{Failmode}
use Rattle.zio_script.specs.declared.script.Failmode.TheVariants.{Wait, Continue, Panic}
use Rattle.zio_script.specs.declared.script.Item.{Item}
use Rattle.zio_script.specs.declared.script.Item.TheVariants.{Go, Clear}
use Rattle.zio_script.specs.declared.script.Script.{Script}
use Rattle.zio_gang.specs.Journals.{asks_of}
use Rattle.zio_worked.specs.Scripts.{script, write, read, free, null, under, can_fail, must, fault, fault_over, choice, place, report, zeros, lines, asks_in}

-- ---- four attempts

-- until the first clear no write succeeds
abbrev pub broken_script : Failmode → List Item → Script
broken_script failmode items =
    script failmode ((0 ∷ []) ∷ []) (fault 0 OnWrite 0 1 Eio ∷ []) (write 1 (codes "x") Off 1 65 512 ∷ Go ∷ items)

abbrev pub four_attempts : List Choice
four_attempts =
    choice 1 1 0 [] Body 512 1 (place 0 0 1 ∷ [])
    ∷ choice 1 1 1 [] Body 512 1 (place 0 1 1 ∷ [])
    ∷ choice 1 1 2 [] Body 512 1 (place 0 2 1 ∷ [])
    ∷ choice 1 1 3 [] Body 512 1 (place 0 3 1 ∷ []) ∷ []

-- a write that may not fail is tried again at once, but not without end
abbrev pub FourthAttemptSuspends : Type 0
FourthAttemptSuspends =
    report (broken_script Wait []) (zeros 4096 ∷ []) four_attempts
    ≡ lines (
    "pool 1 1"
    ∷ "round 1 batch 1 point 0"
    ∷ "1 write x suspended"
    ∷ "end 9" ∷ [])

-- each attempt asks for its own places
abbrev pub FourAttemptsAsk : Type 0
FourAttemptsAsk = asks_in (broken_script Wait []) (zeros 4096 ∷ []) four_attempts ≡ asks_of four_attempts

-- A null stands over a write that would go again at once and a read that waits for a device.
abbrev pub mixed_script : Script
mixed_script = script Wait ((0 ∷ []) ∷ []) (fault_over 0 OnWrite 0 4 0 1 Eio ∷ fault_over 0 OnRead 7 1 0 1 Gone ∷ []) (
    write 1 (codes "y") Off 1 65 512
    ∷ Go
    ∷ null 2
    ∷ under 2 (write 3 (codes "x") Off 1 66 512)
    ∷ under 2 (read 4 (codes "y"))
    ∷ Go
    ∷ Clear ∷ [])

abbrev pub mixed_choices : List Choice
mixed_choices =
    choice 1 1 0 [] Body 512 1 (place 0 7 1 ∷ [])
    ∷ choice 3 2 0 [] Body 512 1 (place 0 0 1 ∷ [])
    ∷ choice 3 3 0 [] Body 512 1 (place 0 0 1 ∷ []) ∷ []

-- what waits holds back what would go again at once
abbrev pub WaitingComesFirst : Type 0
WaitingComesFirst =
    report mixed_script (zeros 4096 ∷ []) mixed_choices
    ≡ lines (
    "pool 1 1"
    ∷ "round 1 batch 1 point 0"
    ∷ "1 write y ok 512"
    ∷ "round 2 batch 2 point 0"
    ∷ "2 null suspended"
    ∷ "3 write x suspended"
    ∷ "4 read y suspended"
    ∷ "round 3 clear point 1"
    ∷ "2 null ok"
    ∷ "3 write x ok 512"
    ∷ "4 read y ok 512 20a0a0a080:83878787040:16439b9b85580:2d92628254f020"
    ∷ "end 0" ∷ [])

-- so the write was tried once in its first round
abbrev pub WaitingAsksOnce : Type 0
WaitingAsksOnce = asks_in mixed_script (zeros 4096 ∷ []) mixed_choices ≡ asks_of mixed_choices

-- ---- what comes after

abbrev pub next_batch : List Item
next_batch = write 2 (codes "y") Off 1 66 512 ∷ Go ∷ []

abbrev pub NextBatchIsHeld : Type 0
NextBatchIsHeld =
    report (broken_script Wait next_batch) (zeros 4096 ∷ []) four_attempts
    ≡ lines (
    "pool 1 1"
    ∷ "round 1 batch 1 point 0"
    ∷ "1 write x suspended"
    ∷ "held 2"
    ∷ "end 9" ∷ [])

-- the next batch runs beside what is suspended, which no write may
abbrev pub NextBatchGoesOn : Type 0
NextBatchGoesOn =
    report (broken_script Continue next_batch) (zeros 4096 ∷ []) four_attempts
    ≡ lines (
    "pool 1 1"
    ∷ "round 1 batch 1 point 0"
    ∷ "1 write x suspended"
    ∷ "round 2 batch 2 point 0"
    ∷ "2 write y EIO"
    ∷ "end 9" ∷ [])

-- nothing runs after a panic, not even a clear
abbrev pub PanicEndsTheRun : Type 0
PanicEndsTheRun =
    report (broken_script Panic (next_batch ++ Clear ∷ [])) (zeros 4096 ∷ []) four_attempts
    ≡ lines (
    "pool 1 1"
    ∷ "round 1 batch 1 point 0"
    ∷ "1 write x suspended"
    ∷ "end 4" ∷ [])

-- ---- clears

-- the suspended tree runs first, and then the batch that was held
abbrev pub ClearResumes : Type 0
ClearResumes =
    report (broken_script Wait (next_batch ++ Clear ∷ [])) (zeros 4096 ∷ [])
    (four_attempts
    ++ choice 1 2 0 [] Body 512 1 (place 0 0 1 ∷ [])
    ∷ choice 2 3 0 [] Body 512 1 (place 0 1 1 ∷ []) ∷ [])
    ≡ lines (
    "pool 1 1"
    ∷ "round 1 batch 1 point 0"
    ∷ "1 write x suspended"
    ∷ "held 2"
    ∷ "round 2 clear point 1"
    ∷ "1 write x ok 512"
    ∷ "round 3 batch 2 point 1"
    ∷ "2 write y ok 512"
    ∷ "end 0" ∷ [])

-- with nothing suspended there is no round, and the next one has the new point
abbrev pub ClearRaisesThePoint : Type 0
ClearRaisesThePoint =
    report
    (script Wait ((0 ∷ []) ∷ []) [] (
    write 1 (codes "x") Off 1 65 512 ∷ Go ∷ Clear ∷ read 2 (codes "x") ∷ Go ∷ []))
    (zeros 4096 ∷ [])
    (choice 1 1 0 [] Body 512 1 (place 0 0 1 ∷ []) ∷ [])
    ≡ lines (
    "pool 1 1"
    ∷ "round 1 batch 1 point 0"
    ∷ "1 write x ok 512"
    ∷ "round 2 batch 2 point 1"
    ∷ "2 read x ok 512 20a0a0a080:83878787040:16439b9b85580:2d92628254f020"
    ∷ "end 0" ∷ [])

-- Two reads that may not fail: the device of a is gone until the first clear, that of b fails until the second.
abbrev pub two_reads : Script
two_reads = script Continue ((0 ∷ []) ∷ []) (fault_over 0 OnRead 0 1 0 1 Gone ∷ fault_over 0 OnRead 1 1 0 2 Eio ∷ []) (
    write 1 (codes "a") Off 1 65 512
    ∷ write 2 (codes "b") Off 1 66 512
    ∷ Go
    ∷ must (read 3 (codes "a"))
    ∷ Go
    ∷ must (read 4 (codes "b"))
    ∷ Go
    ∷ Clear
    ∷ Clear ∷ [])

-- all that is suspended, of whichever round, is one round of a clear; what fails again stays
abbrev pub SuspendedTreesShareARound : Type 0
SuspendedTreesShareARound =
    report two_reads (zeros 4096 ∷ [])
    (choice 1 1 0 [] Body 512 1 (place 0 0 1 ∷ []) ∷ choice 2 1 0 [] Body 512 1 (place 0 1 1 ∷ []) ∷ [])
    ≡ lines (
    "pool 1 1"
    ∷ "round 1 batch 1 point 0"
    ∷ "1 write a ok 512"
    ∷ "2 write b ok 512"
    ∷ "round 2 batch 2 point 0"
    ∷ "3 read a suspended"
    ∷ "round 3 batch 3 point 0"
    ∷ "4 read b suspended"
    ∷ "round 4 clear point 1"
    ∷ "3 read a ok 512 20a0a0a080:83878787040:16439b9b85580:2d92628254f020"
    ∷ "4 read b suspended"
    ∷ "round 5 clear point 2"
    ∷ "4 read b ok 512 2121212100:858d8d8d080:169b4b4b34b00:2e45de1defd840"
    ∷ "end 0" ∷ [])

-- Until the first clear x can't be written, and until the second y can't.
abbrev pub held_script : List Item → Script
held_script items =
    script Wait ((0 ∷ []) ∷ []) (fault_over 0 OnWrite 0 4 0 1 Eio ∷ fault_over 0 OnWrite 4 4 0 2 Eio ∷ []) (
    write 1 (codes "x") Off 1 65 512
    ∷ Go
    ∷ write 2 (codes "y") Off 1 66 512
    ∷ Go
    ∷ write 3 (codes "z") Off 1 67 512
    ∷ Go
    ∷ Clear ∷ items)

abbrev pub held_choices : List Choice
held_choices =
    four_attempts
    ++ choice 1 2 0 [] Body 512 1 (place 0 0 1 ∷ [])
    ∷ choice 2 3 0 [] Body 512 1 (place 0 4 1 ∷ [])
    ∷ choice 2 3 1 [] Body 512 1 (place 0 5 1 ∷ [])
    ∷ choice 2 3 2 [] Body 512 1 (place 0 6 1 ∷ [])
    ∷ choice 2 3 3 [] Body 512 1 (place 0 7 1 ∷ [])
    ∷ choice 2 4 0 [] Body 512 1 (place 0 4 1 ∷ [])
    ∷ choice 3 5 0 [] Body 512 1 (place 0 1 1 ∷ []) ∷ []

-- where the first held batch is suspended the second stays held
abbrev pub SecondBatchStaysHeld : Type 0
SecondBatchStaysHeld =
    report (held_script []) (zeros 4096 ∷ []) held_choices
    ≡ lines (
    "pool 1 1"
    ∷ "round 1 batch 1 point 0"
    ∷ "1 write x suspended"
    ∷ "held 2"
    ∷ "held 3"
    ∷ "round 2 clear point 1"
    ∷ "1 write x ok 512"
    ∷ "round 3 batch 2 point 1"
    ∷ "2 write y suspended"
    ∷ "end 9" ∷ [])

-- and runs after the next clear
abbrev pub SecondClearRunsTheRest : Type 0
SecondClearRunsTheRest =
    report (held_script (Clear ∷ [])) (zeros 4096 ∷ []) held_choices
    ≡ lines (
    "pool 1 1"
    ∷ "round 1 batch 1 point 0"
    ∷ "1 write x suspended"
    ∷ "held 2"
    ∷ "held 3"
    ∷ "round 2 clear point 1"
    ∷ "1 write x ok 512"
    ∷ "round 3 batch 2 point 1"
    ∷ "2 write y suspended"
    ∷ "round 4 clear point 2"
    ∷ "2 write y ok 512"
    ∷ "round 5 batch 3 point 2"
    ∷ "3 write z ok 512"
    ∷ "end 0" ∷ [])

-- ---- want of space

abbrev pub full_script : List Item → Script
full_script items = script Wait ((0 ∷ []) ∷ []) [] (write 1 (codes "full") Off 1 0 4096 ∷ Go ∷ items)

abbrev pub full_choices : List Choice
full_choices =
    choice 1 1 0 [] Body 4096 1 (place 0 0 8 ∷ [])
    ∷ choice 2 2 0 [] Body 512 1 [] ∷ []

-- a write that may not fail waits for space
abbrev pub NoSpaceSuspends : Type 0
NoSpaceSuspends =
    report (full_script next_batch) (zeros 4096 ∷ []) full_choices
    ≡ lines (
    "pool 1 1"
    ∷ "round 1 batch 1 point 0"
    ∷ "1 write full ok 4096"
    ∷ "round 2 batch 2 point 0"
    ∷ "2 write y suspended"
    ∷ "end 9" ∷ [])

-- and isn't tried again at once
abbrev pub NoSpaceAsksOnce : Type 0
NoSpaceAsksOnce = asks_in (full_script next_batch) (zeros 4096 ∷ []) full_choices ≡ asks_of full_choices

abbrev pub NoSpaceFails : Type 0
NoSpaceFails =
    report (full_script (can_fail (write 2 (codes "y") Off 1 66 512) ∷ Go ∷ [])) (zeros 4096 ∷ []) full_choices
    ≡ lines (
    "pool 1 1"
    ∷ "round 1 batch 1 point 0"
    ∷ "1 write full ok 4096"
    ∷ "round 2 batch 2 point 0"
    ∷ "2 write y ENOSPC"
    ∷ "end 0" ∷ [])

-- what is freed in a round is free only after it: the write beside the free waits, and finds a place after the clear
abbrev pub FreedSpaceServesLater : Type 0
FreedSpaceServesLater =
    report
    (full_script (write 2 (codes "y") Off 1 66 512 ∷ free 3 (codes "full") ∷ Go ∷ Clear ∷ []))
    (zeros 4096 ∷ [])
    (full_choices ++ choice 2 3 0 [] Body 512 1 (place 0 5 1 ∷ []) ∷ [])
    ≡ lines (
    "pool 1 1"
    ∷ "round 1 batch 1 point 0"
    ∷ "1 write full ok 4096"
    ∷ "round 2 batch 2 point 0"
    ∷ "2 write y suspended"
    ∷ "3 free full ok"
    ∷ "round 3 clear point 1"
    ∷ "2 write y ok 512"
    ∷ "end 0" ∷ [])

-- ---- frees

-- Every other sector is full, so x is a gang. Until the first clear none of its two headers can be read.
abbrev pub gang_script : Failmode → List Item → Script
gang_script failmode items = script failmode ((0 ∷ []) ∷ []) (fault_over 0 OnRead 0 3 0 1 Gone ∷ []) (
    write 1 (codes "a") Off 1 97 512
    ∷ write 2 (codes "b") Off 1 98 512
    ∷ write 3 (codes "c") Off 1 99 512
    ∷ write 4 (codes "d") Off 1 100 512
    ∷ Go
    ∷ write 5 (codes "x") Off 1 65 1024
    ∷ Go ∷ items)

abbrev pub gang_choices : List Choice
gang_choices =
    choice 1 1 0 [] Body 512 1 (place 0 1 1 ∷ [])
    ∷ choice 2 1 0 [] Body 512 1 (place 0 3 1 ∷ [])
    ∷ choice 3 1 0 [] Body 512 1 (place 0 5 1 ∷ [])
    ∷ choice 4 1 0 [] Body 512 1 (place 0 7 1 ∷ [])
    ∷ choice 5 2 0 [] Body 1024 1 []
    ∷ choice 5 2 0 [] Head 512 2 (place 0 0 1 ∷ place 0 2 1 ∷ [])
    ∷ choice 5 2 0 (0 ∷ []) Body 512 1 (place 0 4 1 ∷ [])
    ∷ choice 5 2 0 (1 ∷ []) Body 512 1 (place 0 6 1 ∷ []) ∷ []

-- a free of a gang waits for the device of its headers
abbrev pub FreeWaits : Type 0
FreeWaits =
    report (gang_script Wait (free 6 (codes "x") ∷ Go ∷ Clear ∷ read 7 (codes "x") ∷ Go ∷ [])) (zeros 4096 ∷ []) gang_choices
    ≡ lines (
    "pool 1 1"
    ∷ "round 1 batch 1 point 0"
    ∷ "1 write a ok 512"
    ∷ "2 write b ok 512"
    ∷ "3 write c ok 512"
    ∷ "4 write d ok 512"
    ∷ "round 2 batch 2 point 0"
    ∷ "5 write x ok 1024"
    ∷ "round 3 batch 3 point 0"
    ∷ "6 free x suspended"
    ∷ "round 4 clear point 1"
    ∷ "6 free x ok"
    ∷ "round 5 batch 4 point 1"
    ∷ "7 read x ENOENT"
    ∷ "end 0" ∷ [])

-- where the run goes on it fails, if it may, and frees nothing
abbrev pub FreeFails : Type 0
FreeFails =
    report
    (gang_script Continue (can_fail (free 6 (codes "x")) ∷ Go ∷ Clear ∷ read 7 (codes "x") ∷ Go ∷ []))
    (zeros 4096 ∷ [])
    gang_choices
    ≡ lines (
    "pool 1 1"
    ∷ "round 1 batch 1 point 0"
    ∷ "1 write a ok 512"
    ∷ "2 write b ok 512"
    ∷ "3 write c ok 512"
    ∷ "4 write d ok 512"
    ∷ "round 2 batch 2 point 0"
    ∷ "5 write x ok 1024"
    ∷ "round 3 batch 3 point 0"
    ∷ "6 free x ENXIO"
    ∷ "round 4 batch 4 point 1"
    ∷ "7 read x ok 1024 4141414100:20c141412080:b00ebebe0eb00:2c87babe9237040"
    ∷ "end 0" ∷ [])

-- ---- a read over a write that goes again

-- The read's own device error stands over a write that goes again at once. So the whole tree goes again, whether or not the
-- read may fail: an error of its own suspends a request only where no bit of a child is there.
abbrev pub read_over_write : (Item → Item) → Script
read_over_write flags = script Wait ((0 ∷ []) ∷ []) (fault_over 0 OnWrite 0 4 0 1 Eio ∷ fault_over 0 OnRead 7 1 0 1 Eio ∷ []) (
    write 1 (codes "y") Off 1 65 512
    ∷ Go
    ∷ flags (read 2 (codes "y"))
    ∷ under 2 (write 3 (codes "x") Off 1 66 512)
    ∷ Go ∷ [])

abbrev pub read_over_write_choices : List Choice
read_over_write_choices =
    choice 1 1 0 [] Body 512 1 (place 0 7 1 ∷ [])
    ∷ choice 3 2 0 [] Body 512 1 (place 0 0 1 ∷ [])
    ∷ choice 3 2 1 [] Body 512 1 (place 0 1 1 ∷ [])
    ∷ choice 3 2 2 [] Body 512 1 (place 0 2 1 ∷ [])
    ∷ choice 3 2 3 [] Body 512 1 (place 0 3 1 ∷ []) ∷ []

abbrev pub ReadGoesAgainWithItsChild : Type 0
ReadGoesAgainWithItsChild =
    map (λ flags. report (read_over_write flags) (zeros 4096 ∷ []) read_over_write_choices) (must ∷ can_fail ∷ [])
    ≡ replicate 2 (lines (
    "pool 1 1"
    ∷ "round 1 batch 1 point 0"
    ∷ "1 write y ok 512"
    ∷ "round 2 batch 2 point 0"
    ∷ "2 read y suspended"
    ∷ "3 write x suspended"
    ∷ "end 9" ∷ []))

-- the write asks in each of four attempts
abbrev pub ChildUnderABadReadAsksFourTimes : Type 0
ChildUnderABadReadAsksFourTimes =
    map (λ flags. asks_in (read_over_write flags) (zeros 4096 ∷ []) read_over_write_choices) (must ∷ can_fail ∷ [])
    ≡ replicate 2 (asks_of read_over_write_choices)

-- ---- a block that a suspended tree names

-- Two reads are suspended. The block that the second of them names is kept from a batch that runs beside them: its read has
-- the error of admission, and not the device's.
abbrev pub BlockOfTheSecondSuspendedTreeIsKept : Type 0
BlockOfTheSecondSuspendedTreeIsKept =
    report
    (script Continue ((0 ∷ []) ∷ []) (fault 0 OnRead 0 1 Gone ∷ []) (
    write 1 (codes "x") Off 1 65 512 ∷ write 2 (codes "y") Off 1 66 512
    ∷ Go
    ∷ must (read 3 (codes "x")) ∷ must (read 4 (codes "y"))
    ∷ Go
    ∷ read 5 (codes "y")
    ∷ Go ∷ []))
    (zeros 4096 ∷ [])
    (choice 1 1 0 [] Body 512 1 (place 0 0 1 ∷ []) ∷ choice 2 1 0 [] Body 512 1 (place 0 1 1 ∷ []) ∷ [])
    ≡ lines (
    "pool 1 1"
    ∷ "round 1 batch 1 point 0"
    ∷ "1 write x ok 512"
    ∷ "2 write y ok 512"
    ∷ "round 2 batch 2 point 0"
    ∷ "3 read x suspended"
    ∷ "4 read y suspended"
    ∷ "round 3 batch 3 point 0"
    ∷ "5 read y EIO"
    ∷ "end 9" ∷ [])

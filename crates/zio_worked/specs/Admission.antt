-- What is answered before a round: whole trees, by what is suspended and by which names are bound.
use Rattle.std.specs.Prelude.{◌≡◌, List, [], ◌∷◌, ◌++◌, codes}
use Rattle.zio_types.specs.declared.journal.Role.TheVariants.{Body}
use Rattle.zio_types.specs.Choices.{Choice}
use Rattle.zio_blkptr.specs.declared.pointer.SumKind.TheVariants.{Off}
use Rattle.zio_faults.specs.declared.table.FaultKind.TheVariants.{Eio, Gone}
use Rattle.zio_faults.specs.declared.table.On.TheVariants.{Read as OnRead, Write as OnWrite}
use Rattle.zio_script.specs.declared.script.Failmode.TheVariants.{Wait, Continue}
use Rattle.zio_script.specs.declared.script.Item.{Item}
use Rattle.zio_script.specs.declared.script.Item.TheVariants.{Go, Clear}
use Rattle.zio_script.specs.declared.script.Script.{Script}
use Rattle.zio_worked.specs.Scripts.{script, write, read, free, claim, null, under, can_fail, must, can_fail_under, fault_over, choice, place, report, zeros, lines}
use Rattle.zio_worked.specs.Suspension.{broken_script, four_attempts}

-- ---- beside a suspended tree

-- Two blocks are bound. The device of a is gone for reads, and a read of it that may not fail is suspended.
abbrev pub beside_script : List Item → Script
beside_script items = script Continue ((0 ∷ []) ∷ []) (fault_over 0 OnRead 0 1 0 65535 Gone ∷ []) (
    write 1 (codes "a") Off 1 65 512
    ∷ write 2 (codes "b") Off 1 66 512
    ∷ Go
    ∷ must (read 3 (codes "a"))
    ∷ Go ∷ items)

abbrev pub two_bound : List Choice
two_bound =
    choice 1 1 0 [] Body 512 1 (place 0 0 1 ∷ [])
    ∷ choice 2 1 0 [] Body 512 1 (place 0 1 1 ∷ []) ∷ []

-- only a read of a block that no suspended request waits for goes on
abbrev pub OtherReadsGoOn : Type 0
OtherReadsGoOn =
    report
    (beside_script (write 4 (codes "c") Off 1 67 512 ∷ read 5 (codes "a") ∷ read 6 (codes "b") ∷ Go ∷ []))
    (zeros 4096 ∷ [])
    two_bound
    ≡ lines (
    "pool 1 1"
    ∷ "round 1 batch 1 point 0"
    ∷ "1 write a ok 512"
    ∷ "2 write b ok 512"
    ∷ "round 2 batch 2 point 0"
    ∷ "3 read a suspended"
    ∷ "round 3 batch 3 point 0"
    ∷ "4 write c EIO"
    ∷ "5 read a EIO"
    ∷ "6 read b ok 512 2121212100:858d8d8d080:169b4b4b34b00:2e45de1defd840"
    ∷ "end 9" ∷ [])

-- neither a free of another block nor a claim goes on, and a claim's pointer isn't looked at
abbrev pub ChangesAreRefused : Type 0
ChangesAreRefused =
    report
    (beside_script (free 4 (codes "b") ∷ Go ∷ claim 5 (codes "d") (zeros 128) ∷ Go ∷ read 6 (codes "b") ∷ Go ∷ []))
    (zeros 4096 ∷ [])
    two_bound
    ≡ lines (
    "pool 1 1"
    ∷ "round 1 batch 1 point 0"
    ∷ "1 write a ok 512"
    ∷ "2 write b ok 512"
    ∷ "round 2 batch 2 point 0"
    ∷ "3 read a suspended"
    ∷ "round 3 batch 3 point 0"
    ∷ "4 free b EIO"
    ∷ "round 4 batch 4 point 0"
    ∷ "5 claim d EIO"
    ∷ "round 5 batch 5 point 0"
    ∷ "6 read b ok 512 2121212100:858d8d8d080:169b4b4b34b00:2e45de1defd840"
    ∷ "end 9" ∷ [])

-- A write over two writes, of which the second can't be written.
abbrev pub finished_script : Script
finished_script = script Continue ((0 ∷ []) ∷ []) (fault_over 0 OnWrite 12 4 0 65535 Eio ∷ []) (
    write 1 (codes "p") Off 1 112 512
    ∷ under 1 (write 2 (codes "a") Off 1 65 512)
    ∷ under 1 (write 3 (codes "b") Off 1 66 512)
    ∷ Go
    ∷ read 4 (codes "a")
    ∷ read 5 (codes "b")
    ∷ read 6 (codes "p")
    ∷ Go ∷ [])

abbrev pub finished_choices : List Choice
finished_choices =
    choice 2 1 0 [] Body 512 1 (place 0 0 1 ∷ [])
    ∷ choice 3 1 0 [] Body 512 1 (place 0 12 1 ∷ [])
    ∷ choice 1 1 0 [] Body 1024 1 (place 0 1 2 ∷ [])
    ∷ choice 3 1 1 [] Body 512 1 (place 0 13 1 ∷ [])
    ∷ choice 1 1 1 [] Body 1024 1 (place 0 3 2 ∷ [])
    ∷ choice 3 1 2 [] Body 512 1 (place 0 14 1 ∷ [])
    ∷ choice 1 1 2 [] Body 1024 1 (place 0 5 2 ∷ [])
    ∷ choice 3 1 3 [] Body 512 1 (place 0 15 1 ∷ [])
    ∷ choice 1 1 3 [] Body 1024 1 (place 0 7 2 ∷ []) ∷ []

-- what finished in a suspended tree is bound and can be read; the names of what is left of it can't
abbrev pub FinishedNamesAreRead : Type 0
FinishedNamesAreRead =
    report finished_script (zeros 8192 ∷ []) finished_choices
    ≡ lines (
    "pool 1 1"
    ∷ "round 1 batch 1 point 0"
    ∷ "1 write p suspended"
    ∷ "2 write a ok 512"
    ∷ "3 write b suspended"
    ∷ "round 2 batch 2 point 0"
    ∷ "4 read a ok 512 20a0a0a080:83878787040:16439b9b85580:2d92628254f020"
    ∷ "5 read b EIO"
    ∷ "6 read p EIO"
    ∷ "end 9" ∷ [])

-- ---- after a hold

-- a held batch is admitted when it runs: by then the block is bound
abbrev pub HeldBatchIsAdmittedLate : Type 0
HeldBatchIsAdmittedLate =
    report (broken_script Wait (read 2 (codes "x") ∷ Go ∷ Clear ∷ [])) (zeros 4096 ∷ [])
    (four_attempts ++ choice 1 2 0 [] Body 512 1 (place 0 4 1 ∷ []) ∷ [])
    ≡ lines (
    "pool 1 1"
    ∷ "round 1 batch 1 point 0"
    ∷ "1 write x suspended"
    ∷ "held 2"
    ∷ "round 2 clear point 1"
    ∷ "1 write x ok 512"
    ∷ "round 3 batch 2 point 1"
    ∷ "2 read x ok 512 20a0a0a080:83878787040:16439b9b85580:2d92628254f020"
    ∷ "end 0" ∷ [])

-- ---- names

-- a block is written once and freed once
abbrev pub NamesComeAndGo : Type 0
NamesComeAndGo =
    report
    (script Wait ((0 ∷ []) ∷ []) [] (
    write 1 (codes "x") Off 1 65 512
    ∷ Go
    ∷ write 2 (codes "x") Off 1 66 512
    ∷ Go
    ∷ claim 3 (codes "x") (zeros 128)
    ∷ Go
    ∷ free 4 (codes "x")
    ∷ Go
    ∷ read 5 (codes "x")
    ∷ Go
    ∷ free 6 (codes "x")
    ∷ Go
    ∷ write 7 (codes "x") Off 1 67 512
    ∷ Go ∷ []))
    (zeros 4096 ∷ [])
    (choice 1 1 0 [] Body 512 1 (place 0 0 1 ∷ [])
    ∷ choice 7 7 0 [] Body 512 1 (place 0 0 1 ∷ []) ∷ [])
    ≡ lines (
    "pool 1 1"
    ∷ "round 1 batch 1 point 0"
    ∷ "1 write x ok 512"
    ∷ "round 2 batch 2 point 0"
    ∷ "2 write x EEXIST"
    ∷ "round 3 batch 3 point 0"
    ∷ "3 claim x EEXIST"
    ∷ "round 4 batch 4 point 0"
    ∷ "4 free x ok"
    ∷ "round 5 batch 5 point 0"
    ∷ "5 read x ENOENT"
    ∷ "round 6 batch 6 point 0"
    ∷ "6 free x ENOENT"
    ∷ "round 7 batch 7 point 0"
    ∷ "7 write x ok 512"
    ∷ "end 0" ∷ [])

-- ---- the order of the rules

-- a tree changes the pool beside a suspended one, and names a block that isn't there and one that is
abbrev pub IoComesFirst : Type 0
IoComesFirst =
    report
    (beside_script (
    can_fail (null 4)
    ∷ can_fail_under 4 (read 5 (codes "nothing"))
    ∷ can_fail_under 4 (write 6 (codes "b") Off 1 67 512)
    ∷ Go ∷ []))
    (zeros 4096 ∷ [])
    two_bound
    ≡ lines (
    "pool 1 1"
    ∷ "round 1 batch 1 point 0"
    ∷ "1 write a ok 512"
    ∷ "2 write b ok 512"
    ∷ "round 2 batch 2 point 0"
    ∷ "3 read a suspended"
    ∷ "round 3 batch 3 point 0"
    ∷ "4 null EIO"
    ∷ "5 read nothing EIO"
    ∷ "6 write b EIO"
    ∷ "end 9" ∷ [])

-- Two blocks are bound, and nothing is suspended.
abbrev pub bound_script : List Item → Script
bound_script items = script Wait ((0 ∷ []) ∷ []) [] (
    write 1 (codes "a") Off 1 65 512
    ∷ write 2 (codes "b") Off 1 66 512
    ∷ Go ∷ items)

-- the block that isn't there counts before the one that is
abbrev pub NoentComesNext : Type 0
NoentComesNext =
    report
    (bound_script (
    null 3
    ∷ under 3 (write 4 (codes "b") Off 1 67 512)
    ∷ under 3 (read 5 (codes "nothing"))
    ∷ Go ∷ []))
    (zeros 4096 ∷ [])
    two_bound
    ≡ lines (
    "pool 1 1"
    ∷ "round 1 batch 1 point 0"
    ∷ "1 write a ok 512"
    ∷ "2 write b ok 512"
    ∷ "round 2 batch 2 point 0"
    ∷ "3 null ENOENT"
    ∷ "4 write b ENOENT"
    ∷ "5 read nothing ENOENT"
    ∷ "end 0" ∷ [])

-- one error answers a whole tree, though a read in it is right, and no request of it waits, though none may fail
abbrev pub ExistComesLast : Type 0
ExistComesLast =
    report
    (bound_script (null 3 ∷ under 3 (read 4 (codes "a")) ∷ under 3 (write 5 (codes "b") Off 1 67 512) ∷ Go ∷ []))
    (zeros 4096 ∷ [])
    two_bound
    ≡ lines (
    "pool 1 1"
    ∷ "round 1 batch 1 point 0"
    ∷ "1 write a ok 512"
    ∷ "2 write b ok 512"
    ∷ "round 2 batch 2 point 0"
    ∷ "3 null EEXIST"
    ∷ "4 read a EEXIST"
    ∷ "5 write b EEXIST"
    ∷ "end 0" ∷ [])

-- the other trees of the batch run
abbrev pub OtherTreesRun : Type 0
OtherTreesRun =
    report
    (bound_script (
    null 3
    ∷ write 4 (codes "c") Off 1 67 512
    ∷ under 3 (null 5)
    ∷ under 5 (read 6 (codes "a"))
    ∷ under 5 (read 7 (codes "nothing"))
    ∷ read 8 (codes "b")
    ∷ Go ∷ []))
    (zeros 4096 ∷ [])
    (two_bound ++ choice 4 2 0 [] Body 512 1 (place 0 2 1 ∷ []) ∷ [])
    ≡ lines (
    "pool 1 1"
    ∷ "round 1 batch 1 point 0"
    ∷ "1 write a ok 512"
    ∷ "2 write b ok 512"
    ∷ "round 2 batch 2 point 0"
    ∷ "3 null ENOENT"
    ∷ "4 write c ok 512"
    ∷ "5 null ENOENT"
    ∷ "6 read a ENOENT"
    ∷ "7 read nothing ENOENT"
    ∷ "8 read b ok 512 2121212100:858d8d8d080:169b4b4b34b00:2e45de1defd840"
    ∷ "end 0" ∷ [])

-- Writes and reads of single blocks.
use Rattle.std.specs.Prelude.{◌≡◌, List, [], ◌∷◌, ◌++◌, map, codes, replicate, Some, option_map}
use Rattle.zio_types.specs.declared.journal.Role.TheVariants.{Body}
use Rattle.zio_types.specs.Choices.{Choice}
use Rattle.zio_blkptr.specs.declared.pointer.Bp.{Bp}
use Rattle.zio_blkptr.specs.declared.pointer.SumKind.{SumKind}
use Rattle.zio_blkptr.specs.declared.pointer.SumKind.TheVariants.{Off, Fletcher4, Sha256}
use Rattle.zio_faults.specs.declared.table.FaultKind.TheVariants.{Eio}
use Rattle.zio_faults.specs.declared.table.On.TheVariants.{Write as OnWrite}
use Rattle.zio_script.specs.declared.script.Body.TheVariants.{Hex, Seq}
use Rattle.zio_script.specs.declared.script.Failmode.TheVariants.{Wait}
use Rattle.zio_script.specs.declared.script.Item.TheVariants.{Go, Clear}
use Rattle.zio_script.specs.declared.script.Script.{Script}
use Rattle.zio_script.specs.Bodies.{body_of}
use Rattle.zio_gang.specs.Writes.{content_of}
use Rattle.zio_worked.specs.Scripts.{script, write, write_body, read, free, choice, place, one_leaf, zeros, sectors_of, fault, report, report_with_data, images_after, pointer_after, lines}

-- ---- a write and a read

-- x is written, and read in the next batch
abbrev pub write_and_read : SumKind → Script
write_and_read sum =
    script Wait one_leaf [] (write 1 (codes "x") sum 1 65 512 ∷ Go ∷ read 2 (codes "x") ∷ Go ∷ [])

-- request 1 finds sector 3
abbrev pub at_sector_3 : List Choice
at_sector_3 = choice 1 1 0 [] Body 512 1 (place 0 3 1 ∷ []) ∷ []

-- one block is written and then read
abbrev pub WriteThenRead : Type 0
WriteThenRead =
    report (write_and_read Fletcher4) (zeros 4096 ∷ []) at_sector_3
    ≡ lines (
    "pool 1 1"
    ∷ "round 1 batch 1 point 0"
    ∷ "1 write x ok 512"
    ∷ "round 2 batch 2 point 0"
    ∷ "2 read x ok 512 20a0a0a080:83878787040:16439b9b85580:2d92628254f020"
    ∷ "end 0" ∷ [])

-- the report doesn't tell one checksum from another
abbrev pub WriteThenReadWithSha256 : Type 0
WriteThenReadWithSha256 =
    report (write_and_read Sha256) (zeros 4096 ∷ []) at_sector_3
    ≡ lines (
    "pool 1 1"
    ∷ "round 1 batch 1 point 0"
    ∷ "1 write x ok 512"
    ∷ "round 2 batch 2 point 0"
    ∷ "2 read x ok 512 20a0a0a080:83878787040:16439b9b85580:2d92628254f020"
    ∷ "end 0" ∷ [])

-- the block fills its sector, and every other byte of the image is as before
abbrev pub OneSectorChanges : Type 0
OneSectorChanges =
    images_after (write_and_read Sha256) (sectors_of 8 7 ∷ []) at_sector_3
    ≡ (sectors_of 3 7 ++ sectors_of 1 65 ++ sectors_of 4 7) ∷ []

-- ---- what a write stores

-- the generator's first value from seed 0, the lowest byte first
abbrev pub SequenceBeginsWithTheFirstValue : Type 0
SequenceBeginsWithTheFirstValue =
    body_of (Seq 0 8) ≡ 0x4f ∷ 0x81 ∷ 0x67 ∷ 0xf7 ∷ 0x7e ∷ 0x7b ∷ 0x05 ∷ 0x14 ∷ []

-- a sequence ends inside a value, and its seed may be the largest word
abbrev pub SequenceOfTenBytes : Type 0
SequenceOfTenBytes =
    body_of (Seq 0xffffffffffffffff 10)
    ≡ 0x22 ∷ 0x02 ∷ 0xd2 ∷ 0xaa ∷ 0x51 ∷ 0x87 ∷ 0xb3 ∷ 0xbb ∷ 0x49 ∷ 0xbf ∷ []

-- the content of a write fills whole sectors
abbrev pub ContentIsPadded : Type 0
ContentIsPadded = content_of [] (replicate 100 65) ≡ replicate 100 65 ++ replicate 412 0

-- whole sectors are left as they are
abbrev pub WholeSectorsArentPadded : Type 0
WholeSectorsArentPadded = content_of [] (replicate 1024 65) ≡ replicate 1024 65

-- a block of 100 bytes has one sector, and is read with its zeros
abbrev pub ShortBodyIsOneSector : Type 0
ShortBodyIsOneSector =
    report
    (script Wait one_leaf [] (write 1 (codes "x") Sha256 1 65 100 ∷ Go ∷ read 2 (codes "x") ∷ Go ∷ []))
    (sectors_of 8 7 ∷ []) at_sector_3
    ≡ lines (
    "pool 1 1"
    ∷ "round 1 batch 1 point 0"
    ∷ "1 write x ok 512"
    ∷ "round 2 batch 2 point 0"
    ∷ "2 read x ok 512 65f5f5f59:2e337373454:a991cdcd243c:1a4000967c5696"
    ∷ "end 0" ∷ [])

-- the sums of zeros are shown by one digit each
abbrev pub ZerosAreRead : Type 0
ZerosAreRead =
    report
    (script Wait one_leaf [] (write 1 (codes "x") Fletcher4 1 0 512 ∷ Go ∷ read 2 (codes "x") ∷ Go ∷ []))
    (sectors_of 8 7 ∷ []) at_sector_3
    ≡ lines (
    "pool 1 1"
    ∷ "round 1 batch 1 point 0"
    ∷ "1 write x ok 512"
    ∷ "round 2 batch 2 point 0"
    ∷ "2 read x ok 512 0:0:0:0"
    ∷ "end 0" ∷ [])

-- the bytes of a read are shown where they are asked for: here two, and 510 zeros of padding
abbrev pub BytesAreShown : Type 0
BytesAreShown =
    report_with_data
    (script Wait one_leaf [] (write_body 1 (codes "x") Off 1 (Hex (0xde ∷ 0xad ∷ [])) ∷ Go ∷ read 2 (codes "x") ∷ Go ∷ []))
    (sectors_of 8 7 ∷ []) at_sector_3
    ≡ lines ("pool 1 1" ∷ "round 1 batch 1 point 0" ∷ "1 write x ok 512" ∷ "round 2 batch 2 point 0" ∷ [])
    ++ codes "2 read x ok 512 adde:56ef00:15e73780:3b5236500 data dead" ++ replicate 1020 48
    ++ 10 ∷ lines ("end 0" ∷ [])

-- ---- names

-- a name that was never bound isn't found
abbrev pub UnboundNameIsNotFound : Type 0
UnboundNameIsNotFound =
    report (script Wait one_leaf [] (read 1 (codes "x") ∷ free 2 (codes "y") ∷ Go ∷ [])) (zeros 4096 ∷ []) []
    ≡ lines (
    "pool 1 1"
    ∷ "round 1 batch 1 point 0"
    ∷ "1 read x ENOENT"
    ∷ "2 free y ENOENT"
    ∷ "end 0" ∷ [])

-- a write never replaces a bound name
abbrev pub BoundNameIsNotWrittenAgain : Type 0
BoundNameIsNotWrittenAgain =
    report
    (script Wait one_leaf [] (write 1 (codes "x") Sha256 1 65 512 ∷ Go ∷ write 2 (codes "x") Sha256 1 66 512 ∷ Go ∷ []))
    (zeros 4096 ∷ []) at_sector_3
    ≡ lines (
    "pool 1 1"
    ∷ "round 1 batch 1 point 0"
    ∷ "1 write x ok 512"
    ∷ "round 2 batch 2 point 0"
    ∷ "2 write x EEXIST"
    ∷ "end 0" ∷ [])

-- a free unbinds its name
abbrev pub FreedNameIsNotFound : Type 0
FreedNameIsNotFound =
    report
    (script Wait one_leaf [] (
    write 1 (codes "x") Sha256 1 65 512 ∷ Go ∷ free 2 (codes "x") ∷ Go ∷ read 3 (codes "x") ∷ Go ∷ []))
    (zeros 4096 ∷ []) at_sector_3
    ≡ lines (
    "pool 1 1"
    ∷ "round 1 batch 1 point 0"
    ∷ "1 write x ok 512"
    ∷ "round 2 batch 2 point 0"
    ∷ "2 free x ok"
    ∷ "round 3 batch 3 point 0"
    ∷ "3 read x ENOENT"
    ∷ "end 0" ∷ [])

-- a freed name can be written again, and its new block is read
abbrev pub FreedNameIsWrittenAgain : Type 0
FreedNameIsWrittenAgain =
    report
    (script Wait one_leaf [] (
    write 1 (codes "x") Sha256 1 0 512 ∷ Go ∷ free 2 (codes "x") ∷ Go
    ∷ write 3 (codes "x") Sha256 1 65 512 ∷ Go ∷ read 4 (codes "x") ∷ Go ∷ []))
    (zeros 4096 ∷ [])
    (choice 1 1 0 [] Body 512 1 (place 0 3 1 ∷ []) ∷ choice 3 3 0 [] Body 512 1 (place 0 3 1 ∷ []) ∷ [])
    ≡ lines (
    "pool 1 1"
    ∷ "round 1 batch 1 point 0"
    ∷ "1 write x ok 512"
    ∷ "round 2 batch 2 point 0"
    ∷ "2 free x ok"
    ∷ "round 3 batch 3 point 0"
    ∷ "3 write x ok 512"
    ∷ "round 4 batch 4 point 0"
    ∷ "4 read x ok 512 20a0a0a080:83878787040:16439b9b85580:2d92628254f020"
    ∷ "end 0" ∷ [])

-- ---- births

-- The first write fails until the clear, and the second batch is held until it is done, so that it runs in round 3.
abbrev pub late_batch : Script
late_batch =
    script Wait one_leaf (fault 0 OnWrite 0 1 Eio ∷ []) (
    write 1 (codes "x") Off 1 65 512 ∷ Go ∷ write 2 (codes "y") Off 1 66 512 ∷ Go ∷ Clear ∷ [])

abbrev pub late_choices : List Choice
late_choices =
    choice 1 1 0 [] Body 512 1 (place 0 0 1 ∷ [])
    ∷ choice 1 1 1 [] Body 512 1 (place 0 1 1 ∷ [])
    ∷ choice 1 1 2 [] Body 512 1 (place 0 2 1 ∷ [])
    ∷ choice 1 1 3 [] Body 512 1 (place 0 3 1 ∷ [])
    ∷ choice 1 2 0 [] Body 512 1 (place 0 0 1 ∷ [])
    ∷ choice 2 3 0 [] Body 512 1 (place 0 1 1 ∷ []) ∷ []

abbrev pub LateBatchRunsAfterTheClear : Type 0
LateBatchRunsAfterTheClear =
    report late_batch (zeros 4096 ∷ []) late_choices
    ≡ lines (
    "pool 1 1"
    ∷ "round 1 batch 1 point 0"
    ∷ "1 write x suspended"
    ∷ "held 2"
    ∷ "round 2 clear point 1"
    ∷ "1 write x ok 512"
    ∷ "round 3 batch 2 point 1"
    ∷ "2 write y ok 512"
    ∷ "end 0" ∷ [])

-- a block's birth is the number of its batch, in whichever round it was written
abbrev pub BirthIsTheBatch : Type 0
BirthIsTheBatch =
    map (λ name. option_map (λ (bp : Bp). bp.birth) (pointer_after late_batch (zeros 4096 ∷ []) late_choices name))
    (codes "x" ∷ codes "y" ∷ [])
    ≡ Some 1 ∷ Some 2 ∷ []

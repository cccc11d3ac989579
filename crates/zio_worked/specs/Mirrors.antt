-- Several leaves and several copies: which is read first, which is mended, and what happens where all fail.
use Rattle.std.specs.Prelude.{◌≡◌, ℕ, List, [], ◌∷◌, ◌++◌, map, codes, replicate, true, false, Option, Some, None}
use Rattle.zio_types.specs.declared.journal.Role.TheVariants.{Body}
use Rattle.zio_types.specs.declared.place.Place.{Place}
use Rattle.zio_types.specs.Choices.{Choice}
use Rattle.zio_blkptr.specs.declared.pointer.SumKind.{SumKind}
use Rattle.zio_blkptr.specs.declared.pointer.SumKind.TheVariants.{Off, Sha256}
use Rattle.zio_faults.specs.declared.table.FaultKind.TheVariants.{Eio, Gone, Flip}
use Rattle.zio_faults.specs.declared.table.Hit.{Hit}
use Rattle.zio_faults.specs.declared.table.On.TheVariants.{Read, Write, Any}
use Rattle.zio_faults.specs.declared.table.Operation.{Operation}
use Rattle.zio_faults.specs.declared.table.Row.{Row}
use Rattle.zio_faults.specs.Hits.{first_hit}
use Rattle.zio_script.specs.declared.script.Failmode.TheVariants.{Wait, Continue}
use Rattle.zio_script.specs.declared.script.Item.{Item}
use Rattle.zio_script.specs.declared.script.Item.TheVariants.{Go, Clear}
use Rattle.zio_cksum.specs.Blocks.{read_order}
use Rattle.zio_cksum.specs.Images.{Images}
use Rattle.zio_gang.specs.Journals.{asks_of}
use Rattle.zio_worked.specs.Scripts.{script, write, read, must, can_fail, fault, fault_at, in_first_pass, choice, completion, place, one_leaf, mirror, two_tops, sectors_of, report, report_with_journal, asks_in, images_after, outcome, lines}

-- ---- words of this file

abbrev pub write_x : SumKind → ℕ → Item
write_x sum copies = write 1 (codes "x") sum copies 65 512

abbrev pub read_x : Item
read_x = read 2 (codes "x")

-- request 1 finds these places in round 1
abbrev pub found : ℕ → List Place → List Choice
found copies places = choice 1 1 0 [] Body 512 copies places ∷ []

-- one copy at sector 3, and one more at sector 5 of the other top
abbrev pub one_place : List Choice
one_place = found 1 (place 0 3 1 ∷ [])

abbrev pub two_places : List Choice
two_places = found 2 (place 0 3 1 ∷ place 1 5 1 ∷ [])

-- a leaf before any write, and one with this byte in one sector
abbrev pub untouched : List ℕ
untouched = sectors_of 8 7

abbrev pub at_3 : ℕ → List ℕ
at_3 byte = sectors_of 3 7 ++ sectors_of 1 byte ++ sectors_of 4 7

abbrev pub at_5 : ℕ → List ℕ
at_5 byte = sectors_of 5 7 ++ sectors_of 1 byte ++ sectors_of 2 7

abbrev pub two_leaves : Images
two_leaves = untouched ∷ untouched ∷ []

-- ---- a leaf that misses a write

-- a mirror's write is good by one of its leaves
abbrev pub MissedWriteIsGoodByTheOther : Type 0
MissedWriteIsGoodByTheOther =
    outcome (script Wait mirror (fault 0 Write 0 1 Eio ∷ []) (write_x Sha256 1 ∷ Go ∷ [])) two_leaves one_place
    ≡ record {
      text = lines ("pool 1 2" ∷ "round 1 batch 1 point 0" ∷ "1 write x ok 512" ∷ "end 0" ∷ []);
      images = untouched ∷ at_3 65 ∷ [];
    }

-- once the leaf can be written, a read mends it
abbrev pub MissedWriteIsRepaired : Type 0
MissedWriteIsRepaired =
    outcome
    (script Wait mirror (fault 0 Write 0 1 Eio ∷ []) (write_x Sha256 1 ∷ Go ∷ Clear ∷ read_x ∷ Go ∷ []))
    two_leaves one_place
    ≡ record {
      text = lines (
          "pool 1 2"
          ∷ "round 1 batch 1 point 0"
          ∷ "1 write x ok 512"
          ∷ "round 2 batch 2 point 1"
          ∷ "2 read x ok 512 20a0a0a080:83878787040:16439b9b85580:2d92628254f020"
          ∷ "end 0" ∷ []);
      images = at_3 65 ∷ at_3 65 ∷ [];
    }

-- a repair that fails changes neither the read nor the leaf
abbrev pub RepairThatFailsIsIgnored : Type 0
RepairThatFailsIsIgnored =
    outcome
    (script Wait mirror (fault 0 Write 0 1 Eio ∷ []) (write_x Sha256 1 ∷ Go ∷ read_x ∷ Go ∷ []))
    two_leaves one_place
    ≡ record {
      text = lines (
          "pool 1 2"
          ∷ "round 1 batch 1 point 0"
          ∷ "1 write x ok 512"
          ∷ "round 2 batch 2 point 0"
          ∷ "2 read x ok 512 20a0a0a080:83878787040:16439b9b85580:2d92628254f020"
          ∷ "end 0" ∷ []);
      images = untouched ∷ at_3 65 ∷ [];
    }

-- the leaf that is read first is good, so the other isn't looked at and stays as it is
abbrev pub LeafBehindAGoodOneIsLeft : Type 0
LeafBehindAGoodOneIsLeft =
    outcome
    (script Wait mirror (fault 1 Write 0 1 Eio ∷ []) (write_x Sha256 1 ∷ Go ∷ Clear ∷ read_x ∷ Go ∷ []))
    two_leaves one_place
    ≡ record {
      text = lines (
          "pool 1 2"
          ∷ "round 1 batch 1 point 0"
          ∷ "1 write x ok 512"
          ∷ "round 2 batch 2 point 1"
          ∷ "2 read x ok 512 20a0a0a080:83878787040:16439b9b85580:2d92628254f020"
          ∷ "end 0" ∷ []);
      images = at_3 65 ∷ untouched ∷ [];
    }

-- ---- a leaf that flips

-- a flip on write stores every bit turned, without an error
abbrev pub FlippedWriteIsStored : Type 0
FlippedWriteIsStored =
    outcome (script Wait mirror (fault 0 Write 0 1 Flip ∷ []) (write_x Sha256 1 ∷ Go ∷ [])) two_leaves one_place
    ≡ record {
      text = lines ("pool 1 2" ∷ "round 1 batch 1 point 0" ∷ "1 write x ok 512" ∷ "end 0" ∷ []);
      images = at_3 0xbe ∷ at_3 65 ∷ [];
    }

abbrev pub FlippedWriteIsRepaired : Type 0
FlippedWriteIsRepaired =
    outcome
    (script Wait mirror (fault 0 Write 0 1 Flip ∷ []) (write_x Sha256 1 ∷ Go ∷ Clear ∷ read_x ∷ Go ∷ []))
    two_leaves one_place
    ≡ record {
      text = lines (
          "pool 1 2"
          ∷ "round 1 batch 1 point 0"
          ∷ "1 write x ok 512"
          ∷ "round 2 batch 2 point 1"
          ∷ "2 read x ok 512 20a0a0a080:83878787040:16439b9b85580:2d92628254f020"
          ∷ "end 0" ∷ []);
      images = at_3 65 ∷ at_3 65 ∷ [];
    }

-- a repair is a write like any other: while the leaf still flips, it stays wrong, and the read is good all the same
abbrev pub RepairThroughAFlipStaysWrong : Type 0
RepairThroughAFlipStaysWrong =
    outcome
    (script Wait mirror (fault 0 Write 0 1 Flip ∷ []) (write_x Sha256 1 ∷ Go ∷ read_x ∷ Go ∷ []))
    two_leaves one_place
    ≡ record {
      text = lines (
          "pool 1 2"
          ∷ "round 1 batch 1 point 0"
          ∷ "1 write x ok 512"
          ∷ "round 2 batch 2 point 0"
          ∷ "2 read x ok 512 20a0a0a080:83878787040:16439b9b85580:2d92628254f020"
          ∷ "end 0" ∷ []);
      images = at_3 0xbe ∷ at_3 65 ∷ [];
    }

-- a flip on read changes what is handed out and not the leaf; where nothing is checked it isn't noticed
abbrev pub FlippedReadIsHandedOut : Type 0
FlippedReadIsHandedOut =
    outcome
    (script Wait one_leaf (fault 0 Read 0 1 Flip ∷ []) (write_x Off 1 ∷ Go ∷ read_x ∷ Go ∷ []))
    (untouched ∷ []) one_place
    ≡ record {
      text = lines (
          "pool 1 1"
          ∷ "round 1 batch 1 point 0"
          ∷ "1 write x ok 512"
          ∷ "round 2 batch 2 point 0"
          ∷ "2 read x ok 512 5f5f5f5f00:180787876f80:4114646423500:8535bd7cf847c0"
          ∷ "end 0" ∷ []);
      images = at_3 65 ∷ [];
    }

-- ---- rows

-- a flip covers the part that is common to the row and the operation
abbrev pub FlipTurnsTheCommonPart : Type 0
FlipTurnsTheCommonPart =
    images_after
    (script Wait mirror (fault_at 0 Write 1600 100 0 1 Flip ∷ fault_at 1 Write 1000 600 0 1 Flip ∷ [])
    (write_x Off 1 ∷ Go ∷ []))
    two_leaves one_place
    ≡ (sectors_of 3 7 ++ replicate 64 65 ++ replicate 100 0xbe ++ replicate 348 65 ++ sectors_of 4 7)
    ∷ (sectors_of 3 7 ++ replicate 64 0xbe ++ replicate 448 65 ++ sectors_of 4 7) ∷ []

-- the first row that an operation meets counts: leaf 0 flips part of it, leaf 1 fails
abbrev pub FirstRowCounts : Type 0
FirstRowCounts =
    images_after
    (script Wait mirror (
    fault_at 0 Write 1600 100 0 1 Flip ∷ fault 0 Write 0 1 Eio
    ∷ fault 1 Write 0 1 Eio ∷ fault_at 1 Write 1600 100 0 1 Flip ∷ [])
    (write_x Off 1 ∷ Go ∷ []))
    two_leaves one_place
    ≡ (sectors_of 3 7 ++ replicate 64 65 ++ replicate 100 0xbe ++ replicate 348 65 ++ sectors_of 4 7) ∷ untouched ∷ []

-- a write of sector 3 on leaf 0, at point 1 and in a first pass
abbrev pub write_of_sector_3 : Operation
write_of_sector_3 = record { leaf = 0; write = true; at = 1536; len = 512; point = 1; retry = false }

abbrev pub hit : ℕ → ℕ → Option Hit
hit at len = Some (record { kind = Eio; at = at; len = len })

-- a row is met where leaf, operation and resume point fit and the ranges have a byte in common
abbrev pub RowIsMetInItsRange : Type 0
RowIsMetInItsRange =
    map (λ (r : Row). first_hit (r ∷ []) write_of_sector_3) (
    fault_at 0 Write 0 65536 0 2 Eio
    ∷ fault_at 0 Any 2047 1 1 2 Eio
    ∷ fault_at 0 Any 1500 37 0 65535 Eio
    ∷ fault_at 0 Write 0 1536 0 2 Eio
    ∷ fault_at 0 Write 2048 512 0 2 Eio
    ∷ fault_at 1 Write 0 65536 0 2 Eio
    ∷ fault_at 0 Read 0 65536 0 2 Eio
    ∷ fault_at 0 Write 0 65536 0 1 Eio
    ∷ fault_at 0 Write 0 65536 2 3 Eio
    ∷ in_first_pass (fault_at 0 Write 1700 10 0 2 Eio) ∷ [])
    ≡ hit 1536 512 ∷ hit 2047 1 ∷ hit 1536 1 ∷ None ∷ None ∷ None ∷ None ∷ None ∷ None ∷ hit 1700 10 ∷ []

-- a row holds from its first point on, and no longer at its last
abbrev pub RowHoldsBetweenItsPoints : Type 0
RowHoldsBetweenItsPoints =
    report
    (script Wait one_leaf (fault 0 Read 1 2 Eio ∷ []) (
    write_x Sha256 1 ∷ Go ∷ read 2 (codes "x") ∷ Go
    ∷ Clear ∷ read 3 (codes "x") ∷ Go ∷ Clear ∷ read 4 (codes "x") ∷ Go ∷ []))
    (untouched ∷ []) one_place
    ≡ lines (
    "pool 1 1"
    ∷ "round 1 batch 1 point 0"
    ∷ "1 write x ok 512"
    ∷ "round 2 batch 2 point 0"
    ∷ "2 read x ok 512 20a0a0a080:83878787040:16439b9b85580:2d92628254f020"
    ∷ "round 3 batch 3 point 1"
    ∷ "3 read x EIO"
    ∷ "round 4 batch 4 point 2"
    ∷ "4 read x ok 512 20a0a0a080:83878787040:16439b9b85580:2d92628254f020"
    ∷ "end 0" ∷ [])

-- ---- the retry pass

-- both leaves fail in the first pass alone
abbrev pub ReadPassesInTheRetry : Type 0
ReadPassesInTheRetry =
    outcome
    (script Wait mirror (in_first_pass (fault 0 Read 0 65535 Eio) ∷ in_first_pass (fault 1 Read 0 65535 Eio) ∷ [])
    (write_x Sha256 1 ∷ Go ∷ read_x ∷ Go ∷ []))
    two_leaves one_place
    ≡ record {
      text = lines (
          "pool 1 2"
          ∷ "round 1 batch 1 point 0"
          ∷ "1 write x ok 512"
          ∷ "round 2 batch 2 point 0"
          ∷ "2 read x ok 512 20a0a0a080:83878787040:16439b9b85580:2d92628254f020"
          ∷ "end 0" ∷ []);
      images = at_3 65 ∷ at_3 65 ∷ [];
    }

-- leaf 0 was flipped in a first pass and can't be read; leaf 1 is good in the retry, and the repair is made in that pass
abbrev pub RepairIsMadeInThePassOfTheGoodRead : Type 0
RepairIsMadeInThePassOfTheGoodRead =
    outcome
    (script Wait mirror (
    in_first_pass (fault 0 Write 0 65535 Flip) ∷ fault 0 Read 0 65535 Eio ∷ in_first_pass (fault 1 Read 0 65535 Eio) ∷ [])
    (write_x Sha256 1 ∷ Go ∷ read_x ∷ Go ∷ []))
    two_leaves one_place
    ≡ record {
      text = lines (
          "pool 1 2"
          ∷ "round 1 batch 1 point 0"
          ∷ "1 write x ok 512"
          ∷ "round 2 batch 2 point 0"
          ∷ "2 read x ok 512 20a0a0a080:83878787040:16439b9b85580:2d92628254f020"
          ∷ "end 0" ∷ []);
      images = at_3 65 ∷ at_3 65 ∷ [];
    }

-- In the first pass leaf 0 fails and leaf 1 has missed the write. In the retry leaf 0 is good at once, and what failed in
-- the first pass isn't mended.
abbrev pub RetryMendsItsOwnFailuresAlone : Type 0
RetryMendsItsOwnFailuresAlone =
    outcome
    (script Wait mirror (fault 1 Write 0 1 Eio ∷ in_first_pass (fault 0 Read 0 65535 Eio) ∷ [])
    (write_x Sha256 1 ∷ Go ∷ Clear ∷ read_x ∷ Go ∷ []))
    two_leaves one_place
    ≡ record {
      text = lines (
          "pool 1 2"
          ∷ "round 1 batch 1 point 0"
          ∷ "1 write x ok 512"
          ∷ "round 2 batch 2 point 1"
          ∷ "2 read x ok 512 20a0a0a080:83878787040:16439b9b85580:2d92628254f020"
          ∷ "end 0" ∷ []);
      images = at_3 65 ∷ untouched ∷ [];
    }

-- where the place is good by one leaf, there is no retry and the other stays as it is
abbrev pub OneGoodLeafNeedsNoRetry : Type 0
OneGoodLeafNeedsNoRetry =
    images_after
    (script Wait mirror (in_first_pass (fault 0 Write 0 65535 Eio) ∷ []) (write_x Sha256 1 ∷ Go ∷ []))
    two_leaves one_place
    ≡ untouched ∷ at_3 65 ∷ []

-- the retry writes the whole block again: the first copy, which failed, and the second, which was flipped
abbrev pub RetryWritesAllCopies : Type 0
RetryWritesAllCopies =
    outcome
    (script Wait two_tops (in_first_pass (fault 0 Write 0 65535 Eio) ∷ in_first_pass (fault 1 Write 0 65535 Flip) ∷ [])
    (write_x Sha256 2 ∷ Go ∷ []))
    two_leaves two_places
    ≡ record {
      text = lines ("pool 2 2" ∷ "round 1 batch 1 point 0" ∷ "1 write x ok 512" ∷ "end 0" ∷ []);
      images = at_3 65 ∷ at_5 65 ∷ [];
    }

-- ---- copies on two tops

-- the first copy is bad, so the second is read and the first mended
abbrev pub SecondCopyIsReadAndMendsTheFirst : Type 0
SecondCopyIsReadAndMendsTheFirst =
    outcome
    (script Wait two_tops (fault 0 Write 0 1 Flip ∷ []) (write_x Sha256 2 ∷ Go ∷ Clear ∷ read_x ∷ Go ∷ []))
    two_leaves two_places
    ≡ record {
      text = lines (
          "pool 2 2"
          ∷ "round 1 batch 1 point 0"
          ∷ "1 write x ok 512"
          ∷ "round 2 batch 2 point 1"
          ∷ "2 read x ok 512 20a0a0a080:83878787040:16439b9b85580:2d92628254f020"
          ∷ "end 0" ∷ []);
      images = at_3 65 ∷ at_5 65 ∷ [];
    }

-- the first copy is good, so the second isn't looked at
abbrev pub CopyBehindAGoodOneIsLeft : Type 0
CopyBehindAGoodOneIsLeft =
    images_after
    (script Wait two_tops (fault 1 Write 0 1 Flip ∷ []) (write_x Sha256 2 ∷ Go ∷ Clear ∷ read_x ∷ Go ∷ []))
    two_leaves two_places
    ≡ at_3 65 ∷ at_5 0xbe ∷ []

-- Two mirrors. On the first one leaf is flipped and the other missed the write, so both are mended from leaf 2; leaf 3
-- missed the write too, but it stands behind a good leaf.
abbrev pub AllLeavesOfABadCopyAreMended : Type 0
AllLeavesOfABadCopyAreMended =
    outcome
    (script Wait ((0 ∷ 1 ∷ []) ∷ (2 ∷ 3 ∷ []) ∷ []) (fault 0 Write 0 1 Flip ∷ fault 1 Write 0 1 Eio ∷ fault 3 Write 0 1 Eio ∷ [])
    (write_x Sha256 2 ∷ Go ∷ Clear ∷ read_x ∷ Go ∷ []))
    (untouched ∷ untouched ∷ untouched ∷ untouched ∷ []) two_places
    ≡ record {
      text = lines (
          "pool 2 4"
          ∷ "round 1 batch 1 point 0"
          ∷ "1 write x ok 512"
          ∷ "round 2 batch 2 point 1"
          ∷ "2 read x ok 512 20a0a0a080:83878787040:16439b9b85580:2d92628254f020"
          ∷ "end 0" ∷ []);
      images = at_3 65 ∷ at_3 65 ∷ at_5 65 ∷ untouched ∷ [];
    }

-- ---- a top that is gone

-- the write needs both copies, and leaf 1 is gone until the clear
abbrev pub write_and_clear : List Item
write_and_clear = write_x Sha256 2 ∷ Go ∷ Clear ∷ []

-- it is attempted four times in round 1 and once in round 2, each time at other places
abbrev pub five_attempts : List Choice
five_attempts =
    choice 1 1 0 [] Body 512 2 (place 0 0 1 ∷ place 1 0 1 ∷ [])
    ∷ choice 1 1 1 [] Body 512 2 (place 0 1 1 ∷ place 1 1 1 ∷ [])
    ∷ choice 1 1 2 [] Body 512 2 (place 0 2 1 ∷ place 1 2 1 ∷ [])
    ∷ choice 1 1 3 [] Body 512 2 (place 0 3 1 ∷ place 1 3 1 ∷ [])
    ∷ choice 1 2 0 [] Body 512 2 (place 0 4 1 ∷ place 1 4 1 ∷ []) ∷ []

abbrev pub gone_until_clear : List Row
gone_until_clear = fault 1 Write 0 1 Gone ∷ []

-- The first copy isn't enough. The fourth attempt suspends the write, and it completes after the clear.
abbrev pub MissingTopSuspendsTheWrite : Type 0
MissingTopSuspendsTheWrite =
    outcome (script Wait two_tops gone_until_clear write_and_clear) two_leaves five_attempts
    ≡ record {
      text = lines (
          "pool 2 2"
          ∷ "round 1 batch 1 point 0"
          ∷ "1 write x suspended"
          ∷ "round 2 clear point 1"
          ∷ "1 write x ok 512"
          ∷ "end 0" ∷ []);
      images = (sectors_of 5 65 ++ sectors_of 3 7) ∷ (sectors_of 4 7 ++ sectors_of 1 65 ++ sectors_of 3 7) ∷ [];
    }

-- each attempt asks anew
abbrev pub EachAttemptAsks : Type 0
EachAttemptAsks =
    asks_in (script Wait two_tops gone_until_clear write_and_clear) two_leaves five_attempts ≡ asks_of five_attempts

abbrev pub AttemptsStandInTheJournal : Type 0
AttemptsStandInTheJournal =
    report_with_journal (script Wait two_tops gone_until_clear write_and_clear) two_leaves five_attempts
    (completion 1 2 None ∷ [])
    ≡ lines (
    "pool 2 2"
    ∷ "round 1 batch 1 point 0"
    ∷ "1 write x suspended"
    ∷ "take 1 0 - body 512 2 0:0 1:0"
    ∷ "take 1 1 - body 512 2 0:1 1:1"
    ∷ "take 1 2 - body 512 2 0:2 1:2"
    ∷ "take 1 3 - body 512 2 0:3 1:3"
    ∷ "round 2 clear point 1"
    ∷ "1 write x ok 512"
    ∷ "take 1 0 - body 512 2 0:4 1:4"
    ∷ "order 1"
    ∷ "end 0" ∷ [])

-- without the clear it stays suspended
abbrev pub MissingCopyLeavesTheWrite : Type 0
MissingCopyLeavesTheWrite =
    report (script Wait two_tops gone_until_clear (write_x Sha256 2 ∷ Go ∷ [])) two_leaves five_attempts
    ≡ lines ("pool 2 2" ∷ "round 1 batch 1 point 0" ∷ "1 write x suspended" ∷ "end 9" ∷ [])

-- ---- the order of reads

-- the leaf that is tried first changes every 2 MiB along the top, and the others follow round
abbrev pub ReadsBeginAtAnotherLeaf : Type 0
ReadsBeginAtAnotherLeaf =
    map (λ offset. read_order offset (0 ∷ 1 ∷ [])) (0 ∷ 2097151 ∷ 2097152 ∷ 4194303 ∷ 4194304 ∷ [])
    ≡ (0 ∷ 1 ∷ []) ∷ (0 ∷ 1 ∷ []) ∷ (1 ∷ 0 ∷ []) ∷ (1 ∷ 0 ∷ []) ∷ (0 ∷ 1 ∷ []) ∷ []

abbrev pub ReadsGoRoundFourLeaves : Type 0
ReadsGoRoundFourLeaves =
    map (λ offset. read_order offset (4 ∷ 9 ∷ 2 ∷ 7 ∷ [])) (512 ∷ 2097152 ∷ 4194304 ∷ 6291456 ∷ 8388608 ∷ [])
    ≡ (4 ∷ 9 ∷ 2 ∷ 7 ∷ []) ∷ (9 ∷ 2 ∷ 7 ∷ 4 ∷ []) ∷ (2 ∷ 7 ∷ 4 ∷ 9 ∷ []) ∷ (7 ∷ 4 ∷ 9 ∷ 2 ∷ []) ∷ (4 ∷ 9 ∷ 2 ∷ 7 ∷ []) ∷ []

-- ---- errors

-- no leaf has the block as its checksum wants it
abbrev pub DamagedBlockIsAChecksumError : Type 0
DamagedBlockIsAChecksumError =
    outcome
    (script Wait one_leaf (fault 0 Write 0 1 Flip ∷ []) (write_x Sha256 1 ∷ Go ∷ Clear ∷ read_x ∷ Go ∷ []))
    (untouched ∷ []) one_place
    ≡ record {
      text = lines (
          "pool 1 1"
          ∷ "round 1 batch 1 point 0"
          ∷ "1 write x ok 512"
          ∷ "round 2 batch 2 point 1"
          ∷ "2 read x ECKSUM"
          ∷ "end 0" ∷ []);
      images = at_3 0xbe ∷ [];
    }

-- without a checksum any bytes are good
abbrev pub DamagedBlockWithoutAChecksumIsHandedOut : Type 0
DamagedBlockWithoutAChecksumIsHandedOut =
    report
    (script Wait one_leaf (fault 0 Write 0 1 Flip ∷ []) (write_x Off 1 ∷ Go ∷ Clear ∷ read_x ∷ Go ∷ []))
    (untouched ∷ []) one_place
    ≡ lines (
    "pool 1 1"
    ∷ "round 1 batch 1 point 0"
    ∷ "1 write x ok 512"
    ∷ "round 2 batch 2 point 1"
    ∷ "2 read x ok 512 5f5f5f5f00:180787876f80:4114646423500:8535bd7cf847c0"
    ∷ "end 0" ∷ [])

-- of a wrong checksum and a device's error the second is worse
abbrev pub DeviceErrorIsWorseThanAWrongSum : Type 0
DeviceErrorIsWorseThanAWrongSum =
    report
    (script Wait mirror (fault 0 Write 0 1 Flip ∷ fault 1 Read 0 1 Eio ∷ []) (write_x Sha256 1 ∷ Go ∷ read_x ∷ Go ∷ []))
    two_leaves one_place
    ≡ lines (
    "pool 1 2"
    ∷ "round 1 batch 1 point 0"
    ∷ "1 write x ok 512"
    ∷ "round 2 batch 2 point 0"
    ∷ "2 read x EIO"
    ∷ "end 0" ∷ [])

-- of a wrong checksum and a device that is gone the first is worse
abbrev pub WrongSumIsWorseThanAMissingDevice : Type 0
WrongSumIsWorseThanAMissingDevice =
    report
    (script Wait mirror (fault 0 Write 0 1 Flip ∷ fault 1 Read 0 1 Gone ∷ []) (write_x Sha256 1 ∷ Go ∷ read_x ∷ Go ∷ []))
    two_leaves one_place
    ≡ lines (
    "pool 1 2"
    ∷ "round 1 batch 1 point 0"
    ∷ "1 write x ok 512"
    ∷ "round 2 batch 2 point 0"
    ∷ "2 read x ECKSUM"
    ∷ "end 0" ∷ [])

-- a write that may fail has the worst error of its copies, and binds nothing
abbrev pub FailedWriteHasTheWorstError : Type 0
FailedWriteHasTheWorstError =
    report
    (script Wait two_tops (fault 0 Write 0 1 Eio ∷ fault 1 Write 0 1 Gone ∷ []) (
    can_fail (write_x Sha256 2) ∷ Go ∷ read_x ∷ Go ∷ []))
    two_leaves two_places
    ≡ lines (
    "pool 2 2"
    ∷ "round 1 batch 1 point 0"
    ∷ "1 write x EIO"
    ∷ "round 2 batch 2 point 0"
    ∷ "2 read x ENOENT"
    ∷ "end 0" ∷ [])

-- a read waits for a device that is gone, even where it may fail
abbrev pub ReadWaitsForAMissingDevice : Type 0
ReadWaitsForAMissingDevice =
    report
    (script Wait one_leaf (fault 0 Read 0 1 Gone ∷ []) (write_x Off 1 ∷ Go ∷ read_x ∷ Go ∷ Clear ∷ []))
    (untouched ∷ []) one_place
    ≡ lines (
    "pool 1 1"
    ∷ "round 1 batch 1 point 0"
    ∷ "1 write x ok 512"
    ∷ "round 2 batch 2 point 0"
    ∷ "2 read x suspended"
    ∷ "round 3 clear point 1"
    ∷ "2 read x ok 512 20a0a0a080:83878787040:16439b9b85580:2d92628254f020"
    ∷ "end 0" ∷ [])

-- under continue it has the error
abbrev pub MissingDeviceUnderContinueIsAnError : Type 0
MissingDeviceUnderContinueIsAnError =
    report
    (script Continue one_leaf (fault 0 Read 0 65535 Gone ∷ []) (write_x Off 1 ∷ Go ∷ read_x ∷ Go ∷ []))
    (untouched ∷ []) one_place
    ≡ lines (
    "pool 1 1"
    ∷ "round 1 batch 1 point 0"
    ∷ "1 write x ok 512"
    ∷ "round 2 batch 2 point 0"
    ∷ "2 read x ENXIO"
    ∷ "end 0" ∷ [])

-- but a read that may not fail waits under continue too
abbrev pub ReadThatMayNotFailWaitsUnderContinue : Type 0
ReadThatMayNotFailWaitsUnderContinue =
    report
    (script Continue one_leaf (fault 0 Read 0 65535 Gone ∷ []) (write_x Off 1 ∷ Go ∷ must read_x ∷ Go ∷ []))
    (untouched ∷ []) one_place
    ≡ lines (
    "pool 1 1"
    ∷ "round 1 batch 1 point 0"
    ∷ "1 write x ok 512"
    ∷ "round 2 batch 2 point 0"
    ∷ "2 read x suspended"
    ∷ "end 9" ∷ [])

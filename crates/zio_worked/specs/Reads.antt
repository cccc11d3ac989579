-- Which error a read has, what it mends and in which pass, what waits under panic, and each place of a claim.
use Rattle.std.specs.Prelude.{◌≡◌, ℕ, List, [], ◌∷◌, ◌++◌, map, replicate, bytes_eq, true, Ok, Err}
use Rattle.zio_types.specs.declared.error.Errno.TheVariants.{Io}
use Rattle.zio_blkptr.specs.declared.pointer.SumKind.TheVariants.{Off, Sha256}
use Rattle.zio_faults.specs.declared.table.FaultKind.TheVariants.{Eio, Gone, Flip}
use Rattle.zio_faults.specs.declared.table.On.TheVariants.{Read as OnRead, Write as OnWrite}
use Rattle.zio_faults.specs.declared.table.Row.{Row}
use Rattle.zio_script.specs.declared.script.Failmode.TheVariants.{Wait, Panic}
use Rattle.zio_script.specs.declared.script.Item.TheVariants.{Go, Clear}
use Rattle.zio_cksum.specs.Blocks.{Read, read_block}
use Rattle.zio_cksum.specs.Images.{Images, Setting}
use Rattle.zio_gang.specs.Trees.{read_tree}
use Rattle.zio_gang.specs.declared.tree.Tree.{Tree}
use Rattle.zio_worked.specs.Claims.{image, image_with, claim_x, one_round, good_header, gang_of_one_at, claimed_tree, seven_headers, eighth_header}
use Rattle.zio_worked.specs.Mirrors.{write_x, read_x, untouched, one_place, two_leaves, two_places}
use Rattle.zio_worked.specs.Scripts.{script, fault, fault_over, in_first_pass, place, one_leaf, sectors_of, zeros, no_sum, pointer_with, two_copies_at, header_with, report, lines, two_tops}

-- ---- panic

-- a read that meets a missing device stops the run under panic, though it may fail
abbrev pub MissingDeviceUnderPanicStopsTheRun : Type 0
MissingDeviceUnderPanicStopsTheRun =
    report
    (script Panic one_leaf (fault 0 OnRead 0 1 Gone ∷ []) (write_x Off 1 ∷ Go ∷ read_x ∷ Go ∷ Clear ∷ []))
    (untouched ∷ []) one_place
    ≡ lines (
    "pool 1 1"
    ∷ "round 1 batch 1 point 0"
    ∷ "1 write x ok 512"
    ∷ "round 2 batch 2 point 0"
    ∷ "2 read x suspended"
    ∷ "end 4" ∷ [])

-- ---- each place of a claim

-- of two copies the second or the first is outside, or the second has two sectors for one
abbrev pub EachPlaceOfAClaimIsTested : Type 0
EachPlaceOfAClaimIsTested =
    map (λ pointer. report (claim_x pointer) image []) (
    two_copies_at 5 8 ∷ two_copies_at 8 5
    ∷ pointer_with (1 ∷ 5 ∷ 2 ∷ 6 ∷ 0 ∷ 0 ∷ []) 0x8000020200000000 1 no_sum
    ∷ pointer_with (2 ∷ 6 ∷ 1 ∷ 5 ∷ 0 ∷ 0 ∷ []) 0x8000020200000000 1 no_sum ∷ [])
    ≡ replicate 4 (one_round "1 claim x EINVAL")

-- below the deepest header stands the pointer of a gang outside the top, so it is invalid before it is too deep
abbrev pub PointerBelowTheDeepestIsTested : Type 0
PointerBelowTheDeepestIsTested =
    report (claim_x (gang_of_one_at 0)) ((seven_headers ++ eighth_header) ∷ []) [] ≡ one_round "1 claim x EINVAL"

-- ---- the worst error

-- one top of leaf 0 with these rows
abbrev pub one_top : List Row → Setting
one_top rows = record { tops = record { leaves = 0 ∷ []; sectors = 8; unit = 1 } ∷ []; rows = rows; point = 0 }

-- reads of these sectors meet a missing device and an error
abbrev pub gone_and_eio : ℕ → ℕ → List Row
gone_and_eio a b = fault_over 0 OnRead a 1 0 1 Gone ∷ fault_over 0 OnRead b 1 0 1 Eio ∷ []

-- of both bodies the worse error counts, were it that of the first or the second
abbrev pub WorstErrorOfTheBodiesCounts : Type 0
WorstErrorOfTheBodiesCounts =
    map (λ rows. read_tree (one_top rows) claimed_tree (image_with good_header))
    (gone_and_eio 5 6 ∷ gone_and_eio 6 5 ∷ [])
    ≡ replicate 2 (record { found = Err Io; images = image_with good_header })

-- a kept header of two gangs
abbrev pub header_of_gangs : List ℕ
header_of_gangs = header_with (gang_of_one_at 5 ++ gang_of_one_at 6 ++ zeros 128) no_sum

abbrev pub tree_of_gangs : Tree
tree_of_gangs = record claimed_tree {
  heads =
      record { path = []; bytes = header_of_gangs }
      ∷ record { path = 0 ∷ []; bytes = sectors_of 1 65 }
      ∷ record { path = 1 ∷ []; bytes = sectors_of 1 66 } ∷ [];
}

-- so it is with two headers
abbrev pub WorstErrorOfTheHeadersCounts : Type 0
WorstErrorOfTheHeadersCounts =
    map (λ rows. read_tree (one_top rows) tree_of_gangs (image_with header_of_gangs))
    (gone_and_eio 5 6 ∷ gone_and_eio 6 5 ∷ [])
    ≡ replicate 2 (record { found = Err Io; images = image_with header_of_gangs })

-- ---- repairs

-- three mirrors of one sector each
abbrev pub three_mirrors : List Row → Setting
three_mirrors rows = record {
  tops =
      record { leaves = 0 ∷ 1 ∷ []; sectors = 1; unit = 1 }
      ∷ record { leaves = 2 ∷ 3 ∷ []; sectors = 1; unit = 1 }
      ∷ record { leaves = 4 ∷ 5 ∷ 6 ∷ []; sectors = 1; unit = 1 } ∷ [];
  rows = rows;
  point = 0;
}

-- a copy on each of them, good where it has 0x41 alone
abbrev pub read_three : List Row → Images → Read
read_three rows images =
    read_block (three_mirrors rows) true (bytes_eq (sectors_of 1 65)) images 512
    (place 0 0 1 ∷ place 1 0 1 ∷ place 2 0 1 ∷ [])

-- the leaves' bytes, where each leaf is of one byte
abbrev pub leaves_with : List ℕ → Images
leaves_with bytes = map (sectors_of 1) bytes

-- all leaves of both bad copies are mended, and the bad leaf before the good one; not the one behind it
abbrev pub EveryCopyBeforeTheGoodOneIsMended : Type 0
EveryCopyBeforeTheGoodOneIsMended =
    read_three [] (leaves_with (1 ∷ 2 ∷ 3 ∷ 4 ∷ 5 ∷ 65 ∷ 6 ∷ []))
    ≡ record { found = Ok (sectors_of 1 65); images = leaves_with (65 ∷ 65 ∷ 65 ∷ 65 ∷ 65 ∷ 65 ∷ 6 ∷ []) }

-- a good read of the first pass mends in the first pass, where leaf 2 can't be written
abbrev pub FirstPassMendsInTheFirst : Type 0
FirstPassMendsInTheFirst =
    read_three (in_first_pass (fault 2 OnWrite 0 1 Eio) ∷ []) (leaves_with (1 ∷ 2 ∷ 3 ∷ 4 ∷ 65 ∷ 5 ∷ 6 ∷ []))
    ≡ record { found = Ok (sectors_of 1 65); images = leaves_with (65 ∷ 65 ∷ 3 ∷ 65 ∷ 65 ∷ 5 ∷ 6 ∷ []) }

-- a good read of the retry mends in the retry, where it can
abbrev pub RetryMendsInTheRetry : Type 0
RetryMendsInTheRetry =
    read_three (in_first_pass (fault 2 OnWrite 0 1 Eio) ∷ in_first_pass (fault 4 OnRead 0 1 Eio) ∷ [])
    (leaves_with (1 ∷ 2 ∷ 3 ∷ 4 ∷ 65 ∷ 5 ∷ 6 ∷ []))
    ≡ record { found = Ok (sectors_of 1 65); images = leaves_with (65 ∷ 65 ∷ 65 ∷ 65 ∷ 65 ∷ 5 ∷ 6 ∷ []) }

-- ---- copies that are bad in two ways

-- A copy that can't be read and one that has other bytes than were written: the error of the device is the worse, whichever
-- of them is read first.
abbrev pub DeviceErrorIsWorseThanAWrongSum : Type 0
DeviceErrorIsWorseThanAWrongSum =
    map (λ rows. report (script Wait two_tops rows (write_x Sha256 2 ∷ Go ∷ read_x ∷ Go ∷ [])) two_leaves two_places) (
    (fault 0 OnRead 0 1 Eio ∷ fault 1 OnRead 0 1 Flip ∷ [])
    ∷ (fault 0 OnRead 0 1 Flip ∷ fault 1 OnRead 0 1 Eio ∷ []) ∷ [])
    ≡ replicate 2 (lines (
    "pool 2 2"
    ∷ "round 1 batch 1 point 0"
    ∷ "1 write x ok 512"
    ∷ "round 2 batch 2 point 0"
    ∷ "2 read x EIO"
    ∷ "end 0" ∷ []))

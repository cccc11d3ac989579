-- Tops with units of several sectors: what is stored, read and claimed there; and several readers of one block.
use Rattle.std.specs.Prelude.{◌≡◌, ℕ, ◌*◌, ◌+◌, ◌-◌, List, [], ◌∷◌, ◌++◌, map, codes, replicate, true, false, Some, None, Ok, Err}
use Rattle.zio_types.specs.declared.error.Errno.TheVariants.{Io}
use Rattle.zio_types.specs.declared.journal.Role.TheVariants.{Body}
use Rattle.zio_types.specs.Places.{fits_size}
use Rattle.zio_blkptr.specs.declared.pointer.SumKind.TheVariants.{Off, Sha256}
use Rattle.zio_faults.specs.declared.table.FaultKind.TheVariants.{Eio, Flip}
use Rattle.zio_faults.specs.declared.table.On.TheVariants.{Read as OnRead, Write as OnWrite}
use Rattle.zio_faults.specs.declared.table.Row.{Row}
use Rattle.zio_script.specs.declared.script.Failmode.TheVariants.{Wait}
use Rattle.zio_script.specs.declared.script.Item.{Item}
use Rattle.zio_script.specs.declared.script.Item.TheVariants.{Go, Clear}
use Rattle.zio_script.specs.declared.script.Script.{Script}
use Rattle.zio_cksum.specs.Images.{Images, Setting, Spot, read_leaf, write_leaf}
use Rattle.zio_gang.specs.declared.tree.Tree.{Tree}
use Rattle.zio_gang.specs.Trees.{read_tree}
use Rattle.zio_worked.specs.Claims.{one_round}
use Rattle.zio_worked.specs.Mirrors.{write_x, read_x, two_leaves, one_place, at_3}
use Rattle.zio_worked.specs.Scripts.{script, script_over, write, read, claim, fault, fault_at, fault_over, choice, place, mirror, sectors_of, zeros, no_sum, pointer_with, header_with, report, report_with_journal, outcome, images_after, lines}

-- ---- operations on a place of eight sectors

-- a top of leaf 0 with these rows
abbrev pub setting : List Row → Setting
setting rows = record { tops = record { leaves = 0 ∷ []; sectors = 16; unit = 8 } ∷ []; rows = rows; point = 0 }

-- the second place of the leaf
abbrev pub second_place : Spot
second_place = record { leaf = 0; at = 4096; span = 4096 }

abbrev pub image : Images
image = sectors_of 16 7 ∷ []

-- the image with these bytes in its second half
abbrev pub image_with : List ℕ → Images
image_with bytes = (sectors_of 8 7 ++ bytes) ∷ []

-- behind the bytes zeros are stored to the place's end
abbrev pub TailIsZeros : Type 0
TailIsZeros =
    write_leaf (setting []) false (sectors_of 1 65) image second_place
    ≡ record { error = None; images = image_with (sectors_of 1 65 ++ sectors_of 7 0) }

-- a row that covers sectors of the tail alone makes the write fail, and nothing is stored
abbrev pub FaultOfTheTailFailsTheWrite : Type 0
FaultOfTheTailFailsTheWrite =
    map (λ sector. write_leaf (setting (fault_over 0 OnWrite sector 1 0 1 Eio ∷ [])) false (sectors_of 1 65) image second_place)
    (9 ∷ 15 ∷ [])
    ≡ replicate 2 (record { error = Some Io; images = image })

-- so it is with a read; a row that ends where the place begins isn't met
abbrev pub FaultOfTheTailFailsTheRead : Type 0
FaultOfTheTailFailsTheRead =
    map (λ sector. read_leaf (setting (fault_over 0 OnRead sector 1 0 1 Eio ∷ [])) false (image_with (sectors_of 1 65 ++ sectors_of 7 0)) 512 second_place)
    (7 ∷ 9 ∷ 15 ∷ [])
    ≡ Ok (sectors_of 1 65) ∷ Err Io ∷ Err Io ∷ []

-- a read gives the first bytes of the place, and those of them turned that the row covers
abbrev pub FirstBytesAreRead : Type 0
FirstBytesAreRead =
    map (λ rows. read_leaf (setting rows) false (image_with (sectors_of 1 65 ++ sectors_of 7 0)) 512 second_place)
    ([] ∷ (fault_at 0 OnRead 4352 1024 0 1 Flip ∷ []) ∷ (fault_over 0 OnRead 9 7 0 1 Flip ∷ []) ∷ [])
    ≡ Ok (sectors_of 1 65) ∷ Ok (replicate 256 65 ++ replicate 256 190) ∷ Ok (sectors_of 1 65) ∷ []

-- a flip turns what it covers of the zeros too
abbrev pub FlipOfTheTailIsStored : Type 0
FlipOfTheTailIsStored =
    write_leaf (setting (fault_at 0 OnWrite 4352 1280 0 1 Flip ∷ [])) false (sectors_of 1 65) image second_place
    ≡ record {
      error = None;
      images = image_with (replicate 256 65 ++ replicate 256 190 ++ sectors_of 2 255 ++ sectors_of 5 0);
    }

-- ---- writes

-- a top of leaf 0 with this unit
abbrev pub script_with : ℕ → List Item → Script
script_with unit items = script_over Wait (record { leaves = 0 ∷ []; unit = unit } ∷ []) [] items

-- a block of one sector stands in eight, and is read by its own size
abbrev pub OneSectorStandsInEight : Type 0
OneSectorStandsInEight =
    outcome (script_with 8 (write_x Sha256 1 ∷ Go ∷ read_x ∷ Go ∷ [])) image
    (choice 1 1 0 [] Body 512 1 (place 0 8 8 ∷ []) ∷ [])
    ≡ record {
      text = lines (
          "pool 1 1"
          ∷ "round 1 batch 1 point 0"
          ∷ "1 write x ok 512"
          ∷ "round 2 batch 2 point 0"
          ∷ "2 read x ok 512 20a0a0a080:83878787040:16439b9b85580:2d92628254f020"
          ∷ "end 0" ∷ []);
      images = image_with (sectors_of 1 65 ++ sectors_of 7 0);
    }

-- its choice stands in the journal with the place's sector and the block's size
abbrev pub ChoiceOfAUnitIsShown : Type 0
ChoiceOfAUnitIsShown =
    report_with_journal (script_with 8 (write_x Sha256 1 ∷ Go ∷ [])) image
    (choice 1 1 0 [] Body 512 1 (place 0 8 8 ∷ []) ∷ []) []
    ≡ lines (
    "pool 1 1"
    ∷ "round 1 batch 1 point 0"
    ∷ "1 write x ok 512"
    ∷ "take 1 0 - body 512 1 0:8"
    ∷ "end 0" ∷ [])

-- ---- claims

-- a block of so many sectors less one, without a checksum, at a sector with so many sectors
abbrev pub block_at : ℕ → ℕ → ℕ → List ℕ
block_at less sector sectors =
    pointer_with (sectors ∷ sector ∷ 0 ∷ 0 ∷ 0 ∷ 0 ∷ []) (0x8000020200000000 + 0x10001 * less) 1 no_sum

-- one sector needs eight, where a place may begin
abbrev pub OneSectorIsClaimedInEight : Type 0
OneSectorIsClaimedInEight =
    map (λ pointer. report (script_with 8 (claim 1 (codes "x") pointer ∷ Go ∷ [])) image [])
    (block_at 0 8 8 ∷ block_at 0 8 1 ∷ block_at 0 8 4 ∷ block_at 0 4 8 ∷ block_at 0 16 8 ∷ [])
    ≡ one_round "1 claim x ok" ∷ replicate 4 (one_round "1 claim x EINVAL")

-- three sectors need 3, 4, 4 and 8 on tops of these units
abbrev pub ThreeSectorsAreClaimedByTheUnit : Type 0
ThreeSectorsAreClaimedByTheUnit =
    map (λ unit. map (λ sectors. report (script_with unit (claim 1 (codes "x") (block_at 2 8 sectors) ∷ Go ∷ [])) image []) (3 ∷ 4 ∷ 8 ∷ []))
    (1 ∷ 2 ∷ 4 ∷ 8 ∷ [])
    ≡ (one_round "1 claim x ok" ∷ one_round "1 claim x EINVAL" ∷ one_round "1 claim x EINVAL" ∷ [])
    ∷ (one_round "1 claim x EINVAL" ∷ one_round "1 claim x ok" ∷ one_round "1 claim x EINVAL" ∷ [])
    ∷ (one_round "1 claim x EINVAL" ∷ one_round "1 claim x ok" ∷ one_round "1 claim x EINVAL" ∷ [])
    ∷ (one_round "1 claim x EINVAL" ∷ one_round "1 claim x EINVAL" ∷ one_round "1 claim x ok" ∷ []) ∷ []

-- ---- places that fit

-- on tops of the units 1, 2, 4 and 8: a place that isn't aligned, one too short, one too long, and one on no top
abbrev pub PlacesFitTheirUnits : Type 0
PlacesFitTheirUnits =
    map (fits_size (map (λ unit. record { sectors = 16; unit = unit }) (1 ∷ 2 ∷ 4 ∷ 8 ∷ [])) 1536)
    (place 0 7 3 ∷ place 1 2 4 ∷ place 2 4 4 ∷ place 3 8 8
    ∷ place 1 3 4 ∷ place 2 6 4 ∷ place 3 4 8
    ∷ place 0 0 2 ∷ place 1 0 3 ∷ place 3 0 4 ∷ place 0 0 4 ∷ place 2 0 8 ∷ place 3 0 16 ∷ place 4 0 8 ∷ [])
    ≡ replicate 4 true ++ replicate 10 false

-- ---- several readers of one block

-- a name that isn't bound has a line for each of its readers
abbrev pub EachReaderHasItsLine : Type 0
EachReaderHasItsLine =
    report (script Wait ((0 ∷ []) ∷ []) [] (read 1 (codes "x") ∷ read 2 (codes "x") ∷ Go ∷ [])) (zeros 4096 ∷ []) []
    ≡ lines (
    "pool 1 1"
    ∷ "round 1 batch 1 point 0"
    ∷ "1 read x ENOENT"
    ∷ "2 read x ENOENT"
    ∷ "end 0" ∷ [])

-- both readers have the block, and the leaf that missed the write is mended
abbrev pub ReadersOfOneBlockAgree : Type 0
ReadersOfOneBlockAgree =
    outcome
    (script Wait mirror (fault 0 OnWrite 0 1 Eio ∷ []) (
    write_x Sha256 1 ∷ Go ∷ Clear ∷ read_x ∷ read 3 (codes "x") ∷ Go ∷ []))
    two_leaves one_place
    ≡ record {
      text = lines (
          "pool 1 2"
          ∷ "round 1 batch 1 point 0"
          ∷ "1 write x ok 512"
          ∷ "round 2 batch 2 point 1"
          ∷ "2 read x ok 512 20a0a0a080:83878787040:16439b9b85580:2d92628254f020"
          ∷ "3 read x ok 512 20a0a0a080:83878787040:16439b9b85580:2d92628254f020"
          ∷ "end 0" ∷ []);
      images = at_3 65 ∷ at_3 65 ∷ [];
    }

-- x at sector 3 and y at sector 5
abbrev pub both_blocks : List ℕ
both_blocks = sectors_of 3 7 ++ sectors_of 1 65 ++ sectors_of 1 7 ++ sectors_of 1 66 ++ sectors_of 2 7

-- three reads of one batch, of x, of y and of x again: each finds the images as the one before left them, so what each
-- mended stays
abbrev pub ReadersKeepEarlierRepairs : Type 0
ReadersKeepEarlierRepairs =
    images_after
    (script Wait mirror (fault 0 OnWrite 0 1 Eio ∷ []) (
    write 1 (codes "x") Sha256 1 65 512 ∷ write 2 (codes "y") Sha256 1 66 512 ∷ Go ∷ Clear
    ∷ read 3 (codes "x") ∷ read 4 (codes "y") ∷ read 5 (codes "x") ∷ Go ∷ []))
    two_leaves
    (choice 1 1 0 [] Body 512 1 (place 0 3 1 ∷ []) ∷ choice 2 1 0 [] Body 512 1 (place 0 5 1 ∷ []) ∷ [])
    ≡ both_blocks ∷ both_blocks ∷ []

-- ---- a full top

-- the numbers of the writes that find a place
abbrev pub sixteen : List ℕ
sixteen = 1 ∷ 2 ∷ 3 ∷ 4 ∷ 5 ∷ 6 ∷ 7 ∷ 8 ∷ 9 ∷ 10 ∷ 11 ∷ 12 ∷ 13 ∷ 14 ∷ 15 ∷ 16 ∷ []

-- request n writes one sector under the nth letter
abbrev pub write_letter : ℕ → Item
write_letter n = write n ((96 + n) ∷ []) Off 1 65 512

-- sixteen places of eight sectors serve sixteen writes of one sector, and the next one waits
abbrev pub FullTopSuspendsTheNextWrite : Type 0
FullTopSuspendsTheNextWrite =
    report (script_with 8 (map write_letter (sixteen ++ 17 ∷ []) ++ Go ∷ [])) (sectors_of 128 1 ∷ [])
    (map (λ n. choice n 1 0 [] Body 512 1 (place 0 (8 * (16 - n)) 8 ∷ [])) sixteen ++ choice 17 1 0 [] Body 512 1 [] ∷ [])
    ≡ lines (
    "pool 1 1"
    ∷ "round 1 batch 1 point 0"
    ∷ "1 write a ok 512" ∷ "2 write b ok 512" ∷ "3 write c ok 512" ∷ "4 write d ok 512"
    ∷ "5 write e ok 512" ∷ "6 write f ok 512" ∷ "7 write g ok 512" ∷ "8 write h ok 512"
    ∷ "9 write i ok 512" ∷ "10 write j ok 512" ∷ "11 write k ok 512" ∷ "12 write l ok 512"
    ∷ "13 write m ok 512" ∷ "14 write n ok 512" ∷ "15 write o ok 512" ∷ "16 write p ok 512"
    ∷ "17 write q suspended"
    ∷ "end 9" ∷ [])

-- ---- a gang on tops of different units

-- its header has eight sectors of top 0, and its members eight of top 0 and one of top 1
abbrev pub mixed_header : List ℕ
mixed_header =
    header_with (block_at 0 8 8 ++ pointer_with (0x100000001 ∷ 5 ∷ 0 ∷ 0 ∷ 0 ∷ 0 ∷ []) 0x8000020200000000 1 no_sum ++ zeros 128)
    no_sum

abbrev pub mixed_tree : Tree
mixed_tree = record {
  bp = record {
    count = 1;
    places = place 0 0 8 ∷ place 0 0 0 ∷ place 0 0 0 ∷ [];
    gang = true;
    size = 1024;
    sum = Off;
    birth = 1;
    words = no_sum;
  };
  heads = record { path = []; bytes = mixed_header } ∷ [];
}

abbrev pub mixed_setting : List Row → Setting
mixed_setting rows = record {
  tops = record { leaves = 0 ∷ []; sectors = 16; unit = 8 } ∷ record { leaves = 1 ∷ []; sectors = 8; unit = 1 } ∷ [];
  rows = rows;
  point = 0;
}

abbrev pub mixed_images : Images
mixed_images =
    (mixed_header ++ sectors_of 7 0 ++ sectors_of 1 65 ++ sectors_of 7 0)
    ∷ (sectors_of 5 7 ++ sectors_of 1 66 ++ sectors_of 2 7) ∷ []

-- each member is read by its own size; a row that covers the last sector alone of the header's place or of a member's
-- fails the read
abbrev pub GangStandsOnTopsOfDifferentUnits : Type 0
GangStandsOnTopsOfDifferentUnits =
    map (λ rows. read_tree (mixed_setting rows) mixed_tree mixed_images)
    ([] ∷ (fault_over 0 OnRead 7 1 0 1 Eio ∷ []) ∷ (fault_over 0 OnRead 15 1 0 1 Eio ∷ []) ∷ (fault_over 1 OnRead 6 2 0 1 Eio ∷ []) ∷ [])
    ≡ record { found = Ok (sectors_of 1 65 ++ sectors_of 1 66); images = mixed_images }
    ∷ record { found = Err Io; images = mixed_images }
    ∷ record { found = Err Io; images = mixed_images }
    ∷ record { found = Ok (sectors_of 1 65 ++ sectors_of 1 66); images = mixed_images } ∷ []

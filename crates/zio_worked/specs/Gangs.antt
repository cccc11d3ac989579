-- Blocks for which no run of sectors is long enough: headers and members, how they are read, mended and freed.
use Rattle.std.specs.Prelude.{◌≡◌, ℕ, ◌-◌, List, [], ◌∷◌, ◌++◌, map, filter, replicate, take, drop, codes, true, false, Some, None}
use Rattle.std.specs.List.{flat_map}
use Rattle.zio_types.specs.declared.journal.Role.TheVariants.{Body, Head}
use Rattle.zio_types.specs.declared.place.Place.{Place}
use Rattle.zio_types.specs.Choices.{Choice}
use Rattle.zio_types.specs.Places.{is_free}
use Rattle.zio_blkptr.specs.declared.pointer.SumKind.TheVariants.{Off, Fletcher4}
use Rattle.zio_faults.specs.declared.table.FaultKind.TheVariants.{Eio, Gone, Flip}
use Rattle.zio_faults.specs.declared.table.On.TheVariants.{Read, Write}
use Rattle.zio_faults.specs.declared.table.Row.{Row}
use Rattle.zio_script.specs.declared.script.Body.TheVariants.{Seq}
use Rattle.zio_script.specs.declared.script.Failmode.TheVariants.{Wait, Continue}
use Rattle.zio_script.specs.declared.script.Item.{Item}
use Rattle.zio_script.specs.declared.script.Item.TheVariants.{Go, Clear}
use Rattle.zio_script.specs.declared.script.Script.{Script}
use Rattle.zio_script.specs.Bodies.{sequence}
use Rattle.zio_cksum.specs.Images.{Images}
use Rattle.zio_gang.specs.Journals.{asks_of}
use Rattle.zio_worked.specs.Scripts.{script, write, write_body, read, free, claim, can_fail, fault, fault_at, choice, completion, place, one_leaf, mirror, zeros, sectors_of, no_sum, pointer_with, one_copy_at, two_copies_at, three_copies_at, header_with, report, report_with_journal, asks_in, images_after, outcome, pointer_after, used_after, lines}

-- ---- words of this file

-- Of eight sectors f has 0, 2 and 4, and g has 6. The free ones are 1, 3, 5 and 7, and no two of them are neighbours.
abbrev pub scattered : List Item
scattered = claim 1 (codes "f") (three_copies_at 0 2 4) ∷ Go ∷ claim 2 (codes "g") (one_copy_at 6) ∷ Go ∷ []

-- then x is written, of two sectors
abbrev pub write_x : Item
write_x = write 3 (codes "x") Fletcher4 1 65 1024

abbrev pub written : List Item
written = scattered ++ write_x ∷ Go ∷ []

abbrev pub image : Images
image = sectors_of 8 7 ∷ []

-- x becomes a gang: two copies of its header at 1 and 3, and two members at 5 and 7
abbrev pub gang_choices : List Choice
gang_choices =
    choice 3 3 0 [] Body 1024 1 []
    ∷ choice 3 3 0 [] Head 512 2 (place 0 1 1 ∷ place 0 3 1 ∷ [])
    ∷ choice 3 3 0 (0 ∷ []) Body 512 1 (place 0 5 1 ∷ [])
    ∷ choice 3 3 0 (1 ∷ []) Body 512 1 (place 0 7 1 ∷ []) ∷ []

-- a member of one sector 0x41
abbrev pub member : ℕ → List ℕ
member sector =
    pointer_with (1 ∷ sector ∷ 0 ∷ 0 ∷ 0 ∷ 0 ∷ []) 0x8000070200000000 3
    (0x20a0a0a080 ∷ 0x83878787040 ∷ 0x16439b9b85580 ∷ 0x2d92628254f020 ∷ [])

-- the header of both members, made for sector 1 and birth 3
abbrev pub header : List ℕ
header =
    header_with (member 5 ++ member 7 ++ zeros 128)
    (0x1de03b93a7c18183 ∷ 0x836da8bb198377c2 ∷ 0xe5ab8177065cabcc ∷ 0xe8170840b6e77c89 ∷ [])

-- the image with these bytes at sectors 1, 3, 5 and 7
abbrev pub image_with : List ℕ → List ℕ → List ℕ → List ℕ → List ℕ
image_with a b c d =
    sectors_of 1 7 ++ a ++ sectors_of 1 7 ++ b ++ sectors_of 1 7 ++ c ++ sectors_of 1 7 ++ d

-- a gang is whole
abbrev pub gang_image : List ℕ
gang_image = image_with header header (sectors_of 1 65) (sectors_of 1 65)

-- ---- a gang of two members

abbrev pub ScatteredSpaceMakesAGang : Type 0
ScatteredSpaceMakesAGang =
    outcome (script Wait one_leaf [] (written ++ read 4 (codes "x") ∷ Go ∷ [])) image gang_choices
    ≡ record {
      text = lines (
          "pool 1 1"
          ∷ "round 1 batch 1 point 0"
          ∷ "1 claim f ok"
          ∷ "round 2 batch 2 point 0"
          ∷ "2 claim g ok"
          ∷ "round 3 batch 3 point 0"
          ∷ "3 write x ok 1024"
          ∷ "round 4 batch 4 point 0"
          ∷ "4 read x ok 1024 4141414100:20c141412080:b00ebebe0eb00:2c87babe9237040"
          ∷ "end 0" ∷ []);
      images = gang_image ∷ [];
    }

-- the body is asked for first, then the header, then each member
abbrev pub GangAsksForItsParts : Type 0
GangAsksForItsParts = asks_in (script Wait one_leaf [] written) image gang_choices ≡ asks_of gang_choices

abbrev pub GangStandsInTheJournal : Type 0
GangStandsInTheJournal =
    report_with_journal (script Wait one_leaf [] written) image gang_choices
    (completion 1 1 None ∷ completion 2 2 None ∷ completion 3 3 None ∷ [])
    ≡ lines (
    "pool 1 1"
    ∷ "round 1 batch 1 point 0"
    ∷ "1 claim f ok"
    ∷ "order 1"
    ∷ "round 2 batch 2 point 0"
    ∷ "2 claim g ok"
    ∷ "order 2"
    ∷ "round 3 batch 3 point 0"
    ∷ "3 write x ok 1024"
    ∷ "take 3 0 - body 1024 1 refused"
    ∷ "take 3 0 - head 512 2 0:1 0:3"
    ∷ "take 3 0 0 body 512 1 0:5"
    ∷ "take 3 0 1 body 512 1 0:7"
    ∷ "order 3"
    ∷ "end 0" ∷ [])

-- the gang's own pointer: its places are the header's copies, its size and checksum are the whole content's
abbrev pub GangPointerHasTheWholeSum : Type 0
GangPointerHasTheWholeSum =
    pointer_after (script Wait one_leaf [] written) image gang_choices (codes "x")
    ≡ Some (record {
      count = 2;
      places = place 0 1 1 ∷ place 0 3 1 ∷ place 0 0 0 ∷ [];
      gang = true;
      size = 1024;
      sum = Fletcher4;
      birth = 3;
      words = 0x4141414100 ∷ 0x20c141412080 ∷ 0xb00ebebe0eb00 ∷ 0x2c87babe9237040 ∷ [];
    })

-- ---- a gang inside a gang

-- Of sixteen sectors the even ones are claimed.
abbrev pub every_other : List Item
every_other =
    claim 1 (codes "a") (three_copies_at 0 2 4) ∷ Go
    ∷ claim 2 (codes "b") (three_copies_at 6 8 10) ∷ Go
    ∷ claim 3 (codes "c") (two_copies_at 12 14) ∷ Go ∷ []

-- four sectors, each different
abbrev pub nested : Script
nested =
    script Wait one_leaf [] (
    every_other ++ write_body 4 (codes "x") Fletcher4 1 (Seq 0 2048) ∷ Go ∷ read 5 (codes "x") ∷ Go ∷ [])

abbrev pub nested_choices : List Choice
nested_choices =
    choice 4 4 0 [] Body 2048 1 []
    ∷ choice 4 4 0 [] Head 512 2 (place 0 1 1 ∷ place 0 3 1 ∷ [])
    ∷ choice 4 4 0 (0 ∷ []) Body 1024 1 []
    ∷ choice 4 4 0 (0 ∷ []) Head 512 2 (place 0 5 1 ∷ place 0 7 1 ∷ [])
    ∷ choice 4 4 0 (0 ∷ 0 ∷ []) Body 512 1 (place 0 9 1 ∷ [])
    ∷ choice 4 4 0 (0 ∷ 1 ∷ []) Body 512 1 (place 0 11 1 ∷ [])
    ∷ choice 4 4 0 (1 ∷ []) Body 512 1 (place 0 13 1 ∷ [])
    ∷ choice 4 4 0 (2 ∷ []) Body 512 1 (place 0 15 1 ∷ []) ∷ []

abbrev pub GangInsideAGang : Type 0
GangInsideAGang =
    report nested (sectors_of 16 7 ∷ []) nested_choices
    ≡ lines (
    "pool 1 1"
    ∷ "round 1 batch 1 point 0"
    ∷ "1 claim a ok"
    ∷ "round 2 batch 2 point 0"
    ∷ "2 claim b ok"
    ∷ "round 3 batch 3 point 0"
    ∷ "3 claim c ok"
    ∷ "round 4 batch 4 point 0"
    ∷ "4 write x ok 2048"
    ∷ "round 5 batch 5 point 0"
    ∷ "5 read x ok 2048 ff31f81fe6:fa8f51889d06:a4fa4ad30cc2d6:52248ca277410d96"
    ∷ "end 0" ∷ [])

abbrev pub NestedGangAsksForItsParts : Type 0
NestedGangAsksForItsParts = asks_in nested (sectors_of 16 7 ∷ []) nested_choices ≡ asks_of nested_choices

-- one sector of the body, and its member's pointer
abbrev pub part_pointer : ℕ → List ℕ → List ℕ
part_pointer sector sum = pointer_with (1 ∷ sector ∷ 0 ∷ 0 ∷ 0 ∷ 0 ∷ []) 0x8000070200000000 4 sum

-- the header of the inner gang, made for sector 5
abbrev pub inner_header : List ℕ
inner_header =
    header_with (
    part_pointer 9 (0x3c648fea0c ∷ 0xf35f8c6d456 ∷ 0x292319400bfe5 ∷ 0x53fe2849532609 ∷ [])
    ++ part_pointer 11 (0x3f405bf1b7 ∷ 0xf199071d29d ∷ 0x2753d4caa627a ∷ 0x4e78b34f1af1c2 ∷ [])
    ++ zeros 128)
    (0xffdaec80457740d0 ∷ 0x3781dc9f23c939ec ∷ 0x72fe4254e3532113 ∷ 0xb561275164566a22 ∷ [])

-- the header of the outer gang, made for sector 1; its first member is the inner one, of two sectors
abbrev pub outer_header : List ℕ
outer_header =
    header_with (
    pointer_with (1 ∷ 0x8000000000000005 ∷ 1 ∷ 0x8000000000000007 ∷ 0 ∷ 0 ∷ []) 0x8000070200010001 4
    (0x7ba4ebdbc3 ∷ 0x3c81d12dacf3 ∷ 0x143e166551505f ∷ 0x51fcb34453661cb ∷ [])
    ++ part_pointer 13 (0x42cee53986 ∷ 0x1066eed29700 ∷ 0x2b69c27a80e4b ∷ 0x57434f1266a5eb ∷ [])
    ++ part_pointer 15 (0x40be270a9d ∷ 0x109a330fd313 ∷ 0x2d576eacc6e2c ∷ 0x5dcbcea84705e0 ∷ []))
    (0xeeaf5a3db783f283 ∷ 0xe4ac7a7f2d302335 ∷ 0x296ff91cac5b982e ∷ 0x9913a8e770c2ab96 ∷ [])

-- the headers in two copies each, and the parts of the body in the order of the asks
abbrev pub nested_image : List ℕ
nested_image =
    sectors_of 1 7 ++ outer_header ++ sectors_of 1 7 ++ outer_header
    ++ sectors_of 1 7 ++ inner_header ++ sectors_of 1 7 ++ inner_header
    ++ sectors_of 1 7 ++ take 512 (sequence 0 2048) ++ sectors_of 1 7 ++ take 512 (drop 512 (sequence 0 2048))
    ++ sectors_of 1 7 ++ take 512 (drop 1024 (sequence 0 2048)) ++ sectors_of 1 7 ++ drop 1536 (sequence 0 2048)

abbrev pub NestedGangIsStored : Type 0
NestedGangIsStored = images_after nested (sectors_of 16 7 ∷ []) nested_choices ≡ nested_image ∷ []

-- the inner gang's first copy is stored flipped until the clear, or both of its copies
abbrev pub nested_with : List Row → List Item → Script
nested_with rows items =
    script Wait one_leaf rows (every_other ++ write_body 4 (codes "x") Fletcher4 1 (Seq 0 2048) ∷ Go ∷ Clear ∷ items)

abbrev pub NestedHeaderIsMended : Type 0
NestedHeaderIsMended =
    images_after (nested_with (fault_at 0 Write 2560 512 0 1 Flip ∷ []) (read 5 (codes "x") ∷ Go ∷ []))
    (sectors_of 16 7 ∷ []) nested_choices
    ≡ nested_image ∷ []

abbrev pub NestedHeadersFailTheRead : Type 0
NestedHeadersFailTheRead =
    report
    (nested_with (fault_at 0 Write 2560 512 0 1 Flip ∷ fault_at 0 Write 3584 512 0 1 Flip ∷ [])
    (read 5 (codes "x") ∷ Go ∷ []))
    (sectors_of 16 7 ∷ []) nested_choices
    ≡ lines (
    "pool 1 1"
    ∷ "round 1 batch 1 point 0"
    ∷ "1 claim a ok"
    ∷ "round 2 batch 2 point 0"
    ∷ "2 claim b ok"
    ∷ "round 3 batch 3 point 0"
    ∷ "3 claim c ok"
    ∷ "round 4 batch 4 point 0"
    ∷ "4 write x ok 2048"
    ∷ "round 5 batch 5 point 1"
    ∷ "5 read x ECKSUM"
    ∷ "end 0" ∷ [])

-- frees of the claims and of the gang in a gang leave no place used
abbrev pub NestedGangIsFreed : Type 0
NestedGangIsFreed =
    used_after
    (nested_with [] (
    free 5 (codes "a") ∷ free 6 (codes "b") ∷ free 7 (codes "c") ∷ free 8 (codes "x") ∷ Go ∷ []))
    (sectors_of 16 7 ∷ []) nested_choices
    ≡ []

-- ---- asks that are refused

-- f has the sectors 0 to 5 in three copies and g has 6, so 7 alone is free
abbrev pub one_sector_left : List Item
one_sector_left =
    claim 1 (codes "f") (pointer_with (2 ∷ 0 ∷ 2 ∷ 2 ∷ 2 ∷ 4 ∷ []) 0x8000020200010001 1 no_sum) ∷ Go
    ∷ claim 2 (codes "g") (one_copy_at 6) ∷ Go ∷ []

abbrev pub refused_header : List Choice
refused_header = choice 3 3 0 [] Body 1024 1 [] ∷ choice 3 3 0 [] Head 512 2 (place 0 7 1 ∷ []) ∷ []

-- a header without a place for each copy leaves the whole write without space, and it waits
abbrev pub RefusedHeaderSuspendsTheWrite : Type 0
RefusedHeaderSuspendsTheWrite =
    outcome (script Wait one_leaf [] (one_sector_left ++ write_x ∷ Go ∷ [])) image refused_header
    ≡ record {
      text = lines (
          "pool 1 1"
          ∷ "round 1 batch 1 point 0"
          ∷ "1 claim f ok"
          ∷ "round 2 batch 2 point 0"
          ∷ "2 claim g ok"
          ∷ "round 3 batch 3 point 0"
          ∷ "3 write x suspended"
          ∷ "end 9" ∷ []);
      images = image;
    }

-- what was found before it was refused stands in the journal
abbrev pub RefusedHeaderShowsItsPlace : Type 0
RefusedHeaderShowsItsPlace =
    report_with_journal (script Wait one_leaf [] (one_sector_left ++ write_x ∷ Go ∷ [])) image refused_header
    (completion 1 1 None ∷ completion 2 2 None ∷ [])
    ≡ lines (
    "pool 1 1"
    ∷ "round 1 batch 1 point 0"
    ∷ "1 claim f ok"
    ∷ "order 1"
    ∷ "round 2 batch 2 point 0"
    ∷ "2 claim g ok"
    ∷ "order 2"
    ∷ "round 3 batch 3 point 0"
    ∷ "3 write x suspended"
    ∷ "take 3 0 - body 1024 1 refused"
    ∷ "take 3 0 - head 512 2 0:7 refused"
    ∷ "end 9" ∷ [])

-- it isn't tried again in the round
abbrev pub RefusedHeaderIsAskedForOnce : Type 0
RefusedHeaderIsAskedForOnce =
    asks_in (script Wait one_leaf [] (one_sector_left ++ write_x ∷ Go ∷ [])) image refused_header ≡ asks_of refused_header

-- a write that may fail has the error
abbrev pub RefusedHeaderFailsTheWrite : Type 0
RefusedHeaderFailsTheWrite =
    outcome (script Wait one_leaf [] (one_sector_left ++ can_fail write_x ∷ Go ∷ [])) image refused_header
    ≡ record {
      text = lines (
          "pool 1 1"
          ∷ "round 1 batch 1 point 0"
          ∷ "1 claim f ok"
          ∷ "round 2 batch 2 point 0"
          ∷ "2 claim g ok"
          ∷ "round 3 batch 3 point 0"
          ∷ "3 write x ENOSPC"
          ∷ "end 0" ∷ []);
      images = image;
    }

-- one block has the whole top
abbrev pub full_top : List Choice
full_top = choice 1 1 0 [] Body 4096 1 (place 0 0 8 ∷ []) ∷ choice 2 2 0 [] Body 512 1 [] ∷ []

-- one sector can't become a gang
abbrev pub OneSectorWithoutSpaceFails : Type 0
OneSectorWithoutSpaceFails =
    outcome
    (script Wait one_leaf [] (
    write 1 (codes "big") Off 1 0 4096 ∷ Go ∷ can_fail (write 2 (codes "y") Off 1 65 512) ∷ Go ∷ []))
    image full_top
    ≡ record {
      text = lines (
          "pool 1 1"
          ∷ "round 1 batch 1 point 0"
          ∷ "1 write big ok 4096"
          ∷ "round 2 batch 2 point 0"
          ∷ "2 write y ENOSPC"
          ∷ "end 0" ∷ []);
      images = zeros 4096 ∷ [];
    }

abbrev pub OneSectorAsksForNoHeader : Type 0
OneSectorAsksForNoHeader =
    asks_in
    (script Wait one_leaf [] (
    write 1 (codes "big") Off 1 0 4096 ∷ Go ∷ can_fail (write 2 (codes "y") Off 1 65 512) ∷ Go ∷ []))
    image full_top
    ≡ asks_of full_top

abbrev pub OneSectorWithoutSpaceWaits : Type 0
OneSectorWithoutSpaceWaits =
    report
    (script Wait one_leaf [] (write 1 (codes "big") Off 1 0 4096 ∷ Go ∷ write 2 (codes "y") Off 1 65 512 ∷ Go ∷ []))
    image full_top
    ≡ lines (
    "pool 1 1"
    ∷ "round 1 batch 1 point 0"
    ∷ "1 write big ok 4096"
    ∷ "round 2 batch 2 point 0"
    ∷ "2 write y suspended"
    ∷ "end 9" ∷ [])

-- a header has one copy more than the block, and three at most; an ask that the journal doesn't have counts as refused
abbrev pub HeaderHasOneCopyMore : Type 0
HeaderHasOneCopyMore =
    asks_in
    (script Wait one_leaf [] (
    can_fail (write 1 (codes "a") Off 1 65 1024) ∷ can_fail (write 2 (codes "b") Off 2 65 1024)
    ∷ can_fail (write 3 (codes "c") Off 3 65 1024) ∷ Go ∷ []))
    image []
    ≡ asks_of (
    choice 1 1 0 [] Body 1024 1 [] ∷ choice 1 1 0 [] Head 512 2 []
    ∷ choice 2 1 0 [] Body 1024 2 [] ∷ choice 2 1 0 [] Head 512 3 []
    ∷ choice 3 1 0 [] Body 1024 3 [] ∷ choice 3 1 0 [] Head 512 3 [] ∷ [])

-- ---- members that fail

-- f has the sectors 0, 2 and 4, and g has 6 and 7
abbrev pub three_sectors_left : List Item
three_sectors_left = claim 1 (codes "f") (three_copies_at 0 2 4) ∷ Go ∷ claim 2 (codes "g") (two_copies_at 6 7) ∷ Go ∷ []

abbrev pub missing_member : List Choice
missing_member =
    choice 3 3 0 [] Body 1024 1 []
    ∷ choice 3 3 0 [] Head 512 2 (place 0 1 1 ∷ place 0 3 1 ∷ [])
    ∷ choice 3 3 0 (0 ∷ []) Body 512 1 (place 0 5 1 ∷ [])
    ∷ choice 3 3 0 (1 ∷ []) Body 512 1 [] ∷ []

abbrev pub header_of_one : List ℕ
header_of_one =
    header_with (member 5 ++ zeros 128 ++ zeros 128)
    (0x5f16a2c08bc3250a ∷ 0x772b3ac001766f9f ∷ 0xfbc42c5ae07544b5 ∷ 0xf054fe792b395cf8 ∷ [])

-- a member without a place is zeros in the header, which is written all the same; the write binds nothing
abbrev pub MemberWithoutAPlaceIsZeros : Type 0
MemberWithoutAPlaceIsZeros =
    outcome
    (script Wait one_leaf [] (three_sectors_left ++ can_fail write_x ∷ Go ∷ read 4 (codes "x") ∷ Go ∷ []))
    image missing_member
    ≡ record {
      text = lines (
          "pool 1 1"
          ∷ "round 1 batch 1 point 0"
          ∷ "1 claim f ok"
          ∷ "round 2 batch 2 point 0"
          ∷ "2 claim g ok"
          ∷ "round 3 batch 3 point 0"
          ∷ "3 write x ENOSPC"
          ∷ "round 4 batch 4 point 0"
          ∷ "4 read x ENOENT"
          ∷ "end 0" ∷ []);
      images = image_with header_of_one header_of_one (sectors_of 1 65) (sectors_of 1 7) ∷ [];
    }

-- The first of two members without a place, and the second of three: the others keep their places in the header. (These
-- journals aren't lawful, since a member behind finds what the one before it doesn't.)
abbrev pub second_alone : List ℕ
second_alone =
    header_with (zeros 128 ++ member 5 ++ zeros 128)
    (0x6084024c4bb37a2e ∷ 0x8bae2828fa11ba82 ∷ 0xf12d8bd8abe0927c ∷ 0xce0f5a9537192525 ∷ [])

abbrev pub first_and_third : List ℕ
first_and_third =
    header_with (member 5 ++ zeros 128 ++ member 7)
    (0x26bd6d3544a2ab2e ∷ 0x4c49acfa3b34749 ∷ 0x73a14c0c14d3e2c1 ∷ 0xee04959b513daf6b ∷ [])

-- the header's first copy, where x is of so many bytes and its members have these places
abbrev pub header_over : ℕ → List Choice → List ℕ
header_over len members =
    flat_map (λ (leaf : List ℕ). take 512 (drop 512 leaf)) (images_after
    (script Wait one_leaf [] (scattered ++ can_fail (write 3 (codes "x") Fletcher4 1 65 len) ∷ Go ∷ [])) image (
    choice 3 3 0 [] Body len 1 []
    ∷ choice 3 3 0 [] Head 512 2 (place 0 1 1 ∷ place 0 3 1 ∷ [])
    ∷ members))

abbrev pub MembersKeepTheirPlacesInTheHeader : Type 0
MembersKeepTheirPlacesInTheHeader =
    header_over 1024 (
    choice 3 3 0 (0 ∷ []) Body 512 1 []
    ∷ choice 3 3 0 (1 ∷ []) Body 512 1 (place 0 5 1 ∷ []) ∷ [])
    ++ header_over 1536 (
    choice 3 3 0 (0 ∷ []) Body 512 1 (place 0 5 1 ∷ [])
    ∷ choice 3 3 0 (1 ∷ []) Body 512 1 []
    ∷ choice 3 3 0 (2 ∷ []) Body 512 1 (place 0 7 1 ∷ []) ∷ [])
    ≡ second_alone ++ first_and_third

-- a member that can't be written has a place, so its pointer stands in the header; its error is the gang's
abbrev pub MemberThatIsntWrittenHasItsPointer : Type 0
MemberThatIsntWrittenHasItsPointer =
    outcome
    (script Wait one_leaf (fault_at 0 Write 3584 512 0 1 Eio ∷ []) (scattered ++ can_fail write_x ∷ Go ∷ []))
    image gang_choices
    ≡ record {
      text = lines (
          "pool 1 1"
          ∷ "round 1 batch 1 point 0"
          ∷ "1 claim f ok"
          ∷ "round 2 batch 2 point 0"
          ∷ "2 claim g ok"
          ∷ "round 3 batch 3 point 0"
          ∷ "3 write x EIO"
          ∷ "end 0" ∷ []);
      images = image_with header header (sectors_of 1 65) (sectors_of 1 7) ∷ [];
    }

-- every copy of the header has to be written
abbrev pub HeaderCopyThatIsntWrittenFailsTheGang : Type 0
HeaderCopyThatIsntWrittenFailsTheGang =
    outcome
    (script Wait one_leaf (fault_at 0 Write 512 512 0 1 Eio ∷ []) (scattered ++ can_fail write_x ∷ Go ∷ []))
    image gang_choices
    ≡ record {
      text = lines (
          "pool 1 1"
          ∷ "round 1 batch 1 point 0"
          ∷ "1 claim f ok"
          ∷ "round 2 batch 2 point 0"
          ∷ "2 claim g ok"
          ∷ "round 3 batch 3 point 0"
          ∷ "3 write x EIO"
          ∷ "end 0" ∷ []);
      images = image_with (sectors_of 1 7) header (sectors_of 1 65) (sectors_of 1 65) ∷ [];
    }

-- ---- a gang that is attempted again

-- the second member can't be written until the clear
abbrev pub write_again : Script
write_again = script Wait one_leaf (fault_at 0 Write 3584 512 0 1 Eio ∷ []) (written ++ Clear ∷ [])

abbrev pub again_choices : List Choice
again_choices =
    gang_choices
    ++ choice 3 3 1 [] Body 1024 1 []
    ∷ choice 3 3 1 [] Head 512 2 []
    ∷ choice 3 4 0 [] Body 1024 1 []
    ∷ choice 3 4 0 [] Head 512 2 (place 0 7 1 ∷ place 0 5 1 ∷ [])
    ∷ choice 3 4 0 (0 ∷ []) Body 512 1 (place 0 3 1 ∷ [])
    ∷ choice 3 4 0 (1 ∷ []) Body 512 1 (place 0 1 1 ∷ []) ∷ []

-- What the first attempt took isn't free for the second, which finds no space and so suspends the write. After the
-- round it is free again.
abbrev pub PlacesComeBackAfterTheRound : Type 0
PlacesComeBackAfterTheRound =
    report_with_journal write_again image again_choices
    (completion 1 1 None ∷ completion 2 2 None ∷ completion 3 4 None ∷ [])
    ≡ lines (
    "pool 1 1"
    ∷ "round 1 batch 1 point 0"
    ∷ "1 claim f ok"
    ∷ "order 1"
    ∷ "round 2 batch 2 point 0"
    ∷ "2 claim g ok"
    ∷ "order 2"
    ∷ "round 3 batch 3 point 0"
    ∷ "3 write x suspended"
    ∷ "take 3 0 - body 1024 1 refused"
    ∷ "take 3 0 - head 512 2 0:1 0:3"
    ∷ "take 3 0 0 body 512 1 0:5"
    ∷ "take 3 0 1 body 512 1 0:7"
    ∷ "take 3 1 - body 1024 1 refused"
    ∷ "take 3 1 - head 512 2 refused"
    ∷ "round 4 clear point 1"
    ∷ "3 write x ok 1024"
    ∷ "take 3 0 - body 1024 1 refused"
    ∷ "take 3 0 - head 512 2 0:7 0:5"
    ∷ "take 3 0 0 body 512 1 0:3"
    ∷ "take 3 0 1 body 512 1 0:1"
    ∷ "order 3"
    ∷ "end 0" ∷ [])

abbrev pub SecondAttemptOfAGangAsksAnew : Type 0
SecondAttemptOfAGangAsksAnew = asks_in write_again image again_choices ≡ asks_of again_choices

-- ---- copies of a header

-- the copy at sector 1 is stored flipped until the clear
abbrev pub first_copy_flips : List Row
first_copy_flips = fault_at 0 Write 512 512 0 1 Flip ∷ []

abbrev pub flipped_header : List ℕ
flipped_header = map (λ byte. 255 - byte) header

-- a copy that isn't the header that was written is mended from the next
abbrev pub DamagedHeaderIsMended : Type 0
DamagedHeaderIsMended =
    outcome (script Wait one_leaf first_copy_flips (written ++ Clear ∷ read 4 (codes "x") ∷ Go ∷ [])) image gang_choices
    ≡ record {
      text = lines (
          "pool 1 1"
          ∷ "round 1 batch 1 point 0"
          ∷ "1 claim f ok"
          ∷ "round 2 batch 2 point 0"
          ∷ "2 claim g ok"
          ∷ "round 3 batch 3 point 0"
          ∷ "3 write x ok 1024"
          ∷ "round 4 batch 4 point 1"
          ∷ "4 read x ok 1024 4141414100:20c141412080:b00ebebe0eb00:2c87babe9237040"
          ∷ "end 0" ∷ []);
      images = gang_image ∷ [];
    }

-- while sector 1 still flips, the mended copy is wrong again
abbrev pub HeaderMendedThroughAFlipStaysWrong : Type 0
HeaderMendedThroughAFlipStaysWrong =
    images_after (script Wait one_leaf first_copy_flips (written ++ read 4 (codes "x") ∷ Go ∷ [])) image gang_choices
    ≡ image_with flipped_header header (sectors_of 1 65) (sectors_of 1 65) ∷ []

-- a free reads the headers as a read does, and mends them
abbrev pub FreeMendsAHeader : Type 0
FreeMendsAHeader =
    images_after (script Wait one_leaf first_copy_flips (written ++ Clear ∷ free 4 (codes "x") ∷ Go ∷ []))
    image gang_choices
    ≡ gang_image ∷ []

-- both copies are stored flipped
abbrev pub both_copies_flip : List Row
both_copies_flip = fault_at 0 Write 512 512 0 1 Flip ∷ fault_at 0 Write 1536 512 0 1 Flip ∷ []

-- without a good header there is no way to the members; a free that may fail frees nothing
abbrev pub DamagedHeadersFailTheRead : Type 0
DamagedHeadersFailTheRead =
    outcome
    (script Wait one_leaf both_copies_flip (
    written ++ Clear ∷ read 4 (codes "x") ∷ Go ∷ can_fail (free 5 (codes "x")) ∷ Go ∷ read 6 (codes "x") ∷ Go ∷ []))
    image gang_choices
    ≡ record {
      text = lines (
          "pool 1 1"
          ∷ "round 1 batch 1 point 0"
          ∷ "1 claim f ok"
          ∷ "round 2 batch 2 point 0"
          ∷ "2 claim g ok"
          ∷ "round 3 batch 3 point 0"
          ∷ "3 write x ok 1024"
          ∷ "round 4 batch 4 point 1"
          ∷ "4 read x ECKSUM"
          ∷ "round 5 batch 5 point 1"
          ∷ "5 free x ECKSUM"
          ∷ "round 6 batch 6 point 1"
          ∷ "6 read x ECKSUM"
          ∷ "end 0" ∷ []);
      images = image_with flipped_header flipped_header (sectors_of 1 65) (sectors_of 1 65) ∷ [];
    }

-- a free that may not fail waits
abbrev pub FreeWaitsForItsHeader : Type 0
FreeWaitsForItsHeader =
    report
    (script Wait one_leaf both_copies_flip (written ++ Clear ∷ free 4 (codes "x") ∷ Go ∷ []))
    image gang_choices
    ≡ lines (
    "pool 1 1"
    ∷ "round 1 batch 1 point 0"
    ∷ "1 claim f ok"
    ∷ "round 2 batch 2 point 0"
    ∷ "2 claim g ok"
    ∷ "round 3 batch 3 point 0"
    ∷ "3 write x ok 1024"
    ∷ "round 4 batch 4 point 1"
    ∷ "4 free x suspended"
    ∷ "end 9" ∷ [])

-- On a mirror leaf 0 has flipped members, and no header is good. The members aren't read, so they aren't mended.
abbrev pub MembersBelowABadHeaderArentRead : Type 0
MembersBelowABadHeaderArentRead =
    images_after
    (script Wait mirror (fault 0 Write 0 1 Flip ∷ fault_at 1 Write 0 2048 0 1 Flip ∷ []) (
    written ++ Clear ∷ read 4 (codes "x") ∷ Go ∷ []))
    (sectors_of 8 7 ∷ sectors_of 8 7 ∷ []) gang_choices
    ≡ image_with flipped_header flipped_header (sectors_of 1 0xbe) (sectors_of 1 0xbe)
    ∷ image_with flipped_header flipped_header (sectors_of 1 65) (sectors_of 1 65) ∷ []

-- where a header is good, a bad member is mended from the other leaf
abbrev pub DamagedMemberIsMended : Type 0
DamagedMemberIsMended =
    images_after
    (script Wait mirror (fault_at 0 Write 2048 2048 0 1 Flip ∷ []) (written ++ Clear ∷ read 4 (codes "x") ∷ Go ∷ []))
    (sectors_of 8 7 ∷ sectors_of 8 7 ∷ []) gang_choices
    ≡ gang_image ∷ gang_image ∷ []

-- a member that is bad on its only leaf fails the read
abbrev pub DamagedMemberFailsTheRead : Type 0
DamagedMemberFailsTheRead =
    report
    (script Wait one_leaf (fault_at 0 Write 3584 512 0 1 Flip ∷ []) (written ++ Clear ∷ read 4 (codes "x") ∷ Go ∷ []))
    image gang_choices
    ≡ lines (
    "pool 1 1"
    ∷ "round 1 batch 1 point 0"
    ∷ "1 claim f ok"
    ∷ "round 2 batch 2 point 0"
    ∷ "2 claim g ok"
    ∷ "round 3 batch 3 point 0"
    ∷ "3 write x ok 1024"
    ∷ "round 4 batch 4 point 1"
    ∷ "4 read x ECKSUM"
    ∷ "end 0" ∷ [])

-- ---- frees

-- the header can't be read until the clear; a free waits for a device that is gone, even where it may fail
abbrev pub FreeWaitsForAMissingDevice : Type 0
FreeWaitsForAMissingDevice =
    report
    (script Wait one_leaf (fault 0 Read 0 1 Gone ∷ []) (
    written ++ can_fail (free 4 (codes "x")) ∷ Go ∷ Clear ∷ read 5 (codes "x") ∷ Go ∷ []))
    image gang_choices
    ≡ lines (
    "pool 1 1"
    ∷ "round 1 batch 1 point 0"
    ∷ "1 claim f ok"
    ∷ "round 2 batch 2 point 0"
    ∷ "2 claim g ok"
    ∷ "round 3 batch 3 point 0"
    ∷ "3 write x ok 1024"
    ∷ "round 4 batch 4 point 0"
    ∷ "4 free x suspended"
    ∷ "round 5 clear point 1"
    ∷ "4 free x ok"
    ∷ "round 6 batch 5 point 1"
    ∷ "5 read x ENOENT"
    ∷ "end 0" ∷ [])

-- under continue it has the error
abbrev pub MissingDeviceFailsAFreeUnderContinue : Type 0
MissingDeviceFailsAFreeUnderContinue =
    report
    (script Continue one_leaf (fault 0 Read 0 1 Gone ∷ []) (written ++ can_fail (free 4 (codes "x")) ∷ Go ∷ []))
    image gang_choices
    ≡ lines (
    "pool 1 1"
    ∷ "round 1 batch 1 point 0"
    ∷ "1 claim f ok"
    ∷ "round 2 batch 2 point 0"
    ∷ "2 claim g ok"
    ∷ "round 3 batch 3 point 0"
    ∷ "3 write x ok 1024"
    ∷ "round 4 batch 4 point 0"
    ∷ "4 free x ENXIO"
    ∷ "end 0" ∷ [])

-- a free of a plain block reads nothing, so it doesn't wait
abbrev pub PlainFreeReadsNothing : Type 0
PlainFreeReadsNothing =
    report
    (script Wait one_leaf (fault 0 Read 0 1 Gone ∷ []) (scattered ++ free 3 (codes "f") ∷ Go ∷ []))
    image []
    ≡ lines (
    "pool 1 1"
    ∷ "round 1 batch 1 point 0"
    ∷ "1 claim f ok"
    ∷ "round 2 batch 2 point 0"
    ∷ "2 claim g ok"
    ∷ "round 3 batch 3 point 0"
    ∷ "3 free f ok"
    ∷ "end 0" ∷ [])

-- ---- places of a gang

abbrev pub not_used : List Place → List ℕ
not_used used = filter (λ sector. is_free used (record { top = 0; sector = sector; sectors = 1 })) (0 ∷ 1 ∷ 2 ∷ 3 ∷ 4 ∷ 5 ∷ 6 ∷ 7 ∷ [])

-- a bound gang has its header's places and its members'
abbrev pub GangUsesAllItsPlaces : Type 0
GangUsesAllItsPlaces = not_used (used_after (script Wait one_leaf [] written) image gang_choices) ≡ []

-- a free gives all of them back
abbrev pub FreedGangUsesNoPlace : Type 0
FreedGangUsesNoPlace =
    not_used (used_after (script Wait one_leaf [] (written ++ free 4 (codes "x") ∷ Go ∷ [])) image gang_choices)
    ≡ 1 ∷ 3 ∷ 5 ∷ 7 ∷ []

-- once every block is freed no place is used
abbrev pub NothingIsUsedAfterAllFrees : Type 0
NothingIsUsedAfterAllFrees =
    used_after
    (script Wait one_leaf [] (written ++ free 4 (codes "f") ∷ free 5 (codes "g") ∷ free 6 (codes "x") ∷ Go ∷ []))
    image gang_choices
    ≡ []

-- a gang in a gang has the places of the members in both headers
abbrev pub NestedGangUsesAllItsPlaces : Type 0
NestedGangUsesAllItsPlaces =
    map (λ sector. is_free (used_after nested (sectors_of 16 7 ∷ []) nested_choices) (place 0 sector 1))
    (1 ∷ 3 ∷ 5 ∷ 7 ∷ 9 ∷ 11 ∷ 13 ∷ 15 ∷ [])
    ≡ replicate 8 false

-- Claims of blocks that an image holds already: what binds a name, and what is refused.
use Rattle.std.specs.Prelude.{◌≡◌, ℕ, ◌+◌, ◌^◌, List, [], ◌∷◌, ◌++◌, map, drop, codes, replicate, bytes_eq, Bool, true, false, Ok, Err}
use Prim.Native.String.{String}
use Rattle.zio_types.specs.declared.error.Errno.TheVariants.{Cksum}
use Rattle.zio_blkptr.specs.declared.pointer.SumKind.TheVariants.{Off}
use Rattle.zio_faults.specs.declared.table.FaultKind.TheVariants.{Eio, Gone}
use Rattle.zio_faults.specs.declared.table.On.TheVariants.{Read}
use Rattle.zio_script.specs.declared.script.Failmode.TheVariants.{Wait}
use Rattle.zio_script.specs.declared.script.Item.TheVariants.{Go}
use Rattle.zio_script.specs.declared.script.Script.{Script}
use Rattle.zio_cksum.specs.Headers.{gang_sum_of}
use Rattle.zio_cksum.specs.Images.{Images, Setting}
use Rattle.zio_gang.specs.declared.tree.Tree.{Tree}
use Rattle.zio_gang.specs.Trees.{read_tree}
use Rattle.zio_worked.specs.Gangs.{nested_image}
use Rattle.zio_worked.specs.Scripts.{place, script, read, claim, fault, one_leaf, zeros, sectors_of, word_bytes, no_sum, pointer_with, one_copy_at, two_copies_at, header_with, report, outcome, lines, free, in_first_pass, mirror, used_after}

-- ---- words of this file

-- eight sectors, with 0x41 in sector 5 and 0x42 in sector 6
abbrev pub image : Images
image = (sectors_of 5 7 ++ sectors_of 1 65 ++ sectors_of 1 66 ++ sectors_of 1 7) ∷ []

-- the same with these bytes in the sectors 2 and 3
abbrev pub image_of_two : List ℕ → List ℕ → Images
image_of_two a b =
    (sectors_of 2 7 ++ a ++ b ++ sectors_of 1 7 ++ sectors_of 1 65 ++ sectors_of 1 66 ++ sectors_of 1 7) ∷ []

-- the same with these bytes in sector 3
abbrev pub image_with : List ℕ → Images
image_with header = image_of_two (sectors_of 1 7) header

-- x is claimed by this pointer
abbrev pub claim_x : List ℕ → Script
claim_x pointer = script Wait one_leaf [] (claim 1 (codes "x") pointer ∷ Go ∷ [])

-- x is claimed and read
abbrev pub claim_and_read_x : List ℕ → Script
claim_and_read_x pointer = script Wait one_leaf [] (claim 1 (codes "x") pointer ∷ Go ∷ read 2 (codes "x") ∷ Go ∷ [])

-- the report of a claim with this line
abbrev pub one_round : String → List ℕ
one_round line = lines ("pool 1 1" ∷ "round 1 batch 1 point 0" ∷ line ∷ "end 0" ∷ [])

-- ---- plain pointers

-- what a claim binds is read from where it lies
abbrev pub ClaimedBlockIsRead : Type 0
ClaimedBlockIsRead =
    outcome (claim_and_read_x (one_copy_at 5)) image []
    ≡ record {
      text = lines (
          "pool 1 1"
          ∷ "round 1 batch 1 point 0"
          ∷ "1 claim x ok"
          ∷ "round 2 batch 2 point 0"
          ∷ "2 read x ok 512 20a0a0a080:83878787040:16439b9b85580:2d92628254f020"
          ∷ "end 0" ∷ []);
      images = image;
    }

-- a pointer to one sector by its fletcher4 sum
abbrev pub summed : ℕ → List ℕ → List ℕ
summed sector sum = pointer_with (1 ∷ sector ∷ 0 ∷ 0 ∷ 0 ∷ 0 ∷ []) 0x8000070200000000 1 sum

-- a claim doesn't look at the bytes, so a wrong checksum is found by the read
abbrev pub WrongSumIsFoundByTheRead : Type 0
WrongSumIsFoundByTheRead =
    report
    (script Wait one_leaf [] (
    claim 1 (codes "a") (summed 5 (0x20a0a0a080 ∷ 0x83878787040 ∷ 0x16439b9b85580 ∷ 0x2d92628254f020 ∷ [])) ∷ Go
    ∷ claim 2 (codes "b") (summed 6 (0x20a0a0a080 ∷ 0x83878787040 ∷ 0x16439b9b85580 ∷ 0x2d92628254f020 ∷ [])) ∷ Go
    ∷ read 3 (codes "a") ∷ read 4 (codes "b") ∷ Go ∷ []))
    image []
    ≡ lines (
    "pool 1 1"
    ∷ "round 1 batch 1 point 0"
    ∷ "1 claim a ok"
    ∷ "round 2 batch 2 point 0"
    ∷ "2 claim b ok"
    ∷ "round 3 batch 3 point 0"
    ∷ "3 read a ok 512 20a0a0a080:83878787040:16439b9b85580:2d92628254f020"
    ∷ "4 read b ECKSUM"
    ∷ "end 0" ∷ [])

-- two copies in one place, and two copies of two sectors that have one in common; side by side they are apart
abbrev pub PlacesThatMeetAreRefused : Type 0
PlacesThatMeetAreRefused =
    report
    (script Wait one_leaf [] (
    claim 1 (codes "a") (two_copies_at 5 5) ∷ Go
    ∷ claim 2 (codes "b") (pointer_with (2 ∷ 4 ∷ 2 ∷ 5 ∷ 0 ∷ 0 ∷ []) 0x8000020200010001 1 no_sum) ∷ Go
    ∷ claim 3 (codes "c") (pointer_with (2 ∷ 4 ∷ 2 ∷ 6 ∷ 0 ∷ 0 ∷ []) 0x8000020200010001 1 no_sum) ∷ Go ∷ []))
    image []
    ≡ lines (
    "pool 1 1"
    ∷ "round 1 batch 1 point 0"
    ∷ "1 claim a EEXIST"
    ∷ "round 2 batch 2 point 0"
    ∷ "2 claim b EEXIST"
    ∷ "round 3 batch 3 point 0"
    ∷ "3 claim c ok"
    ∷ "end 0" ∷ [])

-- a place that a bound block has isn't free; a claim that is refused takes nothing, so sector 4 is free for d
abbrev pub UsedPlaceIsRefused : Type 0
UsedPlaceIsRefused =
    report
    (script Wait one_leaf [] (
    claim 1 (codes "a") (one_copy_at 5) ∷ Go
    ∷ claim 2 (codes "b") (one_copy_at 5) ∷ Go
    ∷ claim 3 (codes "c") (two_copies_at 4 5) ∷ Go
    ∷ claim 4 (codes "d") (one_copy_at 4) ∷ Go ∷ []))
    image []
    ≡ lines (
    "pool 1 1"
    ∷ "round 1 batch 1 point 0"
    ∷ "1 claim a ok"
    ∷ "round 2 batch 2 point 0"
    ∷ "2 claim b EEXIST"
    ∷ "round 3 batch 3 point 0"
    ∷ "3 claim c EEXIST"
    ∷ "round 4 batch 4 point 0"
    ∷ "4 claim d ok"
    ∷ "end 0" ∷ [])

-- the last sector can be claimed; not the one after it, nor a run that ends there, nor a place on a top that isn't there
abbrev pub PlaceOutsideItsTopIsInvalid : Type 0
PlaceOutsideItsTopIsInvalid =
    report
    (script Wait one_leaf [] (
    claim 1 (codes "a") (one_copy_at 7) ∷ Go
    ∷ claim 2 (codes "b") (one_copy_at 8) ∷ Go
    ∷ claim 3 (codes "c") (pointer_with (2 ∷ 7 ∷ 0 ∷ 0 ∷ 0 ∷ 0 ∷ []) 0x8000020200010001 1 no_sum) ∷ Go
    ∷ claim 4 (codes "d") (pointer_with (0x100000001 ∷ 0 ∷ 0 ∷ 0 ∷ 0 ∷ 0 ∷ []) 0x8000020200000000 1 no_sum) ∷ Go ∷ []))
    image []
    ≡ lines (
    "pool 1 1"
    ∷ "round 1 batch 1 point 0"
    ∷ "1 claim a ok"
    ∷ "round 2 batch 2 point 0"
    ∷ "2 claim b EINVAL"
    ∷ "round 3 batch 3 point 0"
    ∷ "3 claim c EINVAL"
    ∷ "round 4 batch 4 point 0"
    ∷ "4 claim d EINVAL"
    ∷ "end 0" ∷ [])

abbrev pub ZerosAreNoPointer : Type 0
ZerosAreNoPointer = report (claim_x (zeros 128)) image [] ≡ one_round "1 claim x EINVAL"

-- a name that is bound is refused before its pointer is read
abbrev pub BoundNameIsNotClaimedAgain : Type 0
BoundNameIsNotClaimedAgain =
    report
    (script Wait one_leaf [] (
    claim 1 (codes "x") (one_copy_at 5) ∷ Go
    ∷ claim 2 (codes "x") (one_copy_at 6) ∷ Go
    ∷ claim 3 (codes "x") (zeros 128) ∷ Go ∷ []))
    image []
    ≡ lines (
    "pool 1 1"
    ∷ "round 1 batch 1 point 0"
    ∷ "1 claim x ok"
    ∷ "round 2 batch 2 point 0"
    ∷ "2 claim x EEXIST"
    ∷ "round 3 batch 3 point 0"
    ∷ "3 claim x EEXIST"
    ∷ "end 0" ∷ [])

-- a plain block isn't read by its claim, so a device's error doesn't matter
abbrev pub PlainClaimReadsNothing : Type 0
PlainClaimReadsNothing =
    report
    (script Wait one_leaf (fault 0 Read 0 1 Gone ∷ []) (claim 1 (codes "x") (one_copy_at 5) ∷ Go ∷ []))
    image []
    ≡ one_round "1 claim x ok"

-- ---- gangs

-- a gang of two sectors, with its header at sector 3, and one of a single sector
abbrev pub gang_of_two : List ℕ
gang_of_two = pointer_with (1 ∷ 0x8000000000000003 ∷ 0 ∷ 0 ∷ 0 ∷ 0 ∷ []) 0x8000020200010001 1 no_sum

abbrev pub gang_of_one_at : ℕ → List ℕ
gang_of_one_at sector = pointer_with (1 ∷ (2 ^ 63 + sector) ∷ 0 ∷ 0 ∷ 0 ∷ 0 ∷ []) 0x8000020200000000 1 no_sum

-- the header for sector 3 and birth 1 of members at sectors 5 and 6
abbrev pub good_header : List ℕ
good_header =
    header_with (one_copy_at 5 ++ one_copy_at 6 ++ zeros 128)
    (0x2bb5287c223b6020 ∷ 0x38cdf0a697b9fe77 ∷ 0x87bde43c40d050cc ∷ 0xfc7ff97caf80adb0 ∷ [])

abbrev pub ClaimedGangIsRead : Type 0
ClaimedGangIsRead =
    outcome (claim_and_read_x gang_of_two) (image_with good_header) []
    ≡ record {
      text = lines (
          "pool 1 1"
          ∷ "round 1 batch 1 point 0"
          ∷ "1 claim x ok"
          ∷ "round 2 batch 2 point 0"
          ∷ "2 read x ok 1024 41c1c1c180:20e1a1a180c0:b0666e6dbe080:2c92f2784be5860"
          ∷ "end 0" ∷ []);
      images = image_with good_header;
    }

-- a header is good only where it was made for: a copy of it at sector 2 isn't
abbrev pub HeaderMadeForAnotherPlaceIsRefused : Type 0
HeaderMadeForAnotherPlaceIsRefused =
    report
    (script Wait one_leaf [] (
    claim 1 (codes "a") (pointer_with (1 ∷ 0x8000000000000002 ∷ 0 ∷ 0 ∷ 0 ∷ 0 ∷ []) 0x8000020200010001 1 no_sum) ∷ Go
    ∷ claim 2 (codes "b") gang_of_two ∷ Go ∷ []))
    (image_of_two good_header good_header) []
    ≡ lines (
    "pool 1 1"
    ∷ "round 1 batch 1 point 0"
    ∷ "1 claim a ECKSUM"
    ∷ "round 2 batch 2 point 0"
    ∷ "2 claim b ok"
    ∷ "end 0" ∷ [])

-- another header for sector 3 and birth 1, of members at sectors 4 and 6, which a claim takes as well
abbrev pub other_header : List ℕ
other_header =
    header_with (one_copy_at 4 ++ one_copy_at 6 ++ zeros 128)
    (0xf2f7a655d242c07c ∷ 0x2c07447a2cccf343 ∷ 0x51dcf76b65811d23 ∷ 0x7f30baecc5592942 ∷ [])

abbrev pub OtherHeaderIsClaimed : Type 0
OtherHeaderIsClaimed = report (claim_x gang_of_two) (image_with other_header) [] ≡ one_round "1 claim x ok"

-- what a claim of the first header binds
abbrev pub claimed_tree : Tree
claimed_tree = record {
  bp = record {
    count = 1;
    places = place 0 3 1 ∷ place 0 0 0 ∷ place 0 0 0 ∷ [];
    gang = true;
    size = 1024;
    sum = Off;
    birth = 1;
    words = no_sum;
  };
  heads = record { path = []; bytes = good_header } ∷ [];
}

abbrev pub setting : Setting
setting = record { tops = record { leaves = 0 ∷ []; sectors = 8; unit = 1 } ∷ []; rows = []; point = 0 }

abbrev pub KeptHeaderIsGood : Type 0
KeptHeaderIsGood =
    read_tree setting claimed_tree (image_with good_header)
    ≡ record { found = Ok (sectors_of 1 65 ++ sectors_of 1 66); images = image_with good_header }

-- once the block is bound no other header is good, were it one that could be claimed
abbrev pub OnlyTheKeptHeaderIsGood : Type 0
OnlyTheKeptHeaderIsGood =
    read_tree setting claimed_tree (image_with other_header)
    ≡ record { found = Err Cksum; images = image_with other_header }

-- the one member of this header is the gang that it heads, so the headers never end
abbrev pub endless_header : List ℕ
endless_header =
    header_with (gang_of_one_at 3 ++ zeros 128 ++ zeros 128)
    (0x45f23bc690891790 ∷ 0xe78ea90be9799f3 ∷ 0xfb1ccc6d896c0f4f ∷ 0x1ec729828dca3311 ∷ [])

abbrev pub EndlessGangIsRefused : Type 0
EndlessGangIsRefused = report (claim_x (gang_of_one_at 3)) (image_with endless_header) [] ≡ one_round "1 claim x ECKSUM"

-- a header of one member
abbrev pub header_to : List ℕ → List ℕ → List ℕ
header_to member sum = header_with (member ++ zeros 128 ++ zeros 128) sum

-- the headers of seven gangs at the sectors 0 to 6, each with the next one as its member
abbrev pub seven_headers : List ℕ
seven_headers =
    header_to (gang_of_one_at 1) (0x30f1552c91947a60 ∷ 0x539fe79b5570f928 ∷ 0x36773407b9dee9f1 ∷ 0x5fdfbf9165d39e31 ∷ [])
    ++ header_to (gang_of_one_at 2) (0x6a00102bd6cd3af0 ∷ 0x94944a016530ca0e ∷ 0x265c5d247834088d ∷ 0x5f5ad8f9c2e5f958 ∷ [])
    ++ header_to (gang_of_one_at 3) (0x7a601d5074d950fa ∷ 0x6f241258015ccc73 ∷ 0x783f0985bd6bf536 ∷ 0x9eb2b2c15fdbecf ∷ [])
    ++ header_to (gang_of_one_at 4) (0x9e57dc7e3e4858e8 ∷ 0x3537e4ef5d4eedb0 ∷ 0x6822d9cbad5e94a3 ∷ 0x3ece5e08e88d30af ∷ [])
    ++ header_to (gang_of_one_at 5) (0x30756b70c4b5d323 ∷ 0x89eaac26c7c298b6 ∷ 0xebe17da3d1c18923 ∷ 0x4b6023fb0720a3a1 ∷ [])
    ++ header_to (gang_of_one_at 6) (0x6b49955f613c549 ∷ 0xc0dbeb164b02c87e ∷ 0x51119d9b90a4e13a ∷ 0x90cbb317e687957 ∷ [])
    ++ header_to (gang_of_one_at 7) (0x3d4b4094b509c382 ∷ 0x984f82aff5ce81ce ∷ 0xd3e02c42dff87027 ∷ 0x2829e44e20fd4f6b ∷ [])

-- an eighth header, at depth 7, may have a body under it
abbrev pub DeepestGangIsClaimed : Type 0
DeepestGangIsClaimed =
    report (claim_and_read_x (gang_of_one_at 0))
    ((
    seven_headers
    ++ header_to (one_copy_at 8) (0xccbf76ce6893fead ∷ 0xa7a4de00c2afd668 ∷ 0xe553e8a12ca6ac5c ∷ 0xfb27c62a52d78fdf ∷ [])
    ++ sectors_of 1 65) ∷ [])
    []
    ≡ lines (
    "pool 1 1"
    ∷ "round 1 batch 1 point 0"
    ∷ "1 claim x ok"
    ∷ "round 2 batch 2 point 0"
    ∷ "2 read x ok 512 20a0a0a080:83878787040:16439b9b85580:2d92628254f020"
    ∷ "end 0" ∷ [])

abbrev pub eighth_header : List ℕ
eighth_header =
    header_to (gang_of_one_at 8) (0x15027a3c6d97a618 ∷ 0xf5fde307c59643fb ∷ 0x89534cb1bd6be734 ∷ 0xa408166018f3431b ∷ [])

abbrev pub ninth_header : List ℕ
ninth_header =
    header_to (one_copy_at 9) (0x8dc29ff4e037f539 ∷ 0x6eda3900b2ab2ddc ∷ 0x6aa033e90188f6f9 ∷ 0xc8f7a6ab50b7be7 ∷ [])

-- a ninth header, at depth 8, is too deep
abbrev pub GangBelowTheDeepestIsRefused : Type 0
GangBelowTheDeepestIsRefused =
    report (claim_x (gang_of_one_at 0)) ((seven_headers ++ eighth_header ++ ninth_header ++ sectors_of 1 65) ∷ []) []
    ≡ one_round "1 claim x ECKSUM"

-- the gang in a gang that a run wrote in its fourth batch, by its pointer
abbrev pub WrittenGangIsClaimed : Type 0
WrittenGangIsClaimed =
    report
    (claim_and_read_x (pointer_with
    (1 ∷ 0x8000000000000001 ∷ 1 ∷ 0x8000000000000003 ∷ 0 ∷ 0 ∷ []) 0x8000070200030003 4
    (0xff31f81fe6 ∷ 0xfa8f51889d06 ∷ 0xa4fa4ad30cc2d6 ∷ 0x52248ca277410d96 ∷ [])))
    (nested_image ∷ []) []
    ≡ lines (
    "pool 1 1"
    ∷ "round 1 batch 1 point 0"
    ∷ "1 claim x ok"
    ∷ "round 2 batch 2 point 0"
    ∷ "2 read x ok 2048 ff31f81fe6:fa8f51889d06:a4fa4ad30cc2d6:52248ca277410d96"
    ∷ "end 0" ∷ [])

-- ---- headers that are refused

-- a byte of the filler is set, and the checksum is that of these bytes
abbrev pub header_with_filler : List ℕ
header_with_filler =
    one_copy_at 5 ++ one_copy_at 6 ++ zeros 128 ++ zeros 16 ++ 1 ∷ zeros 71
    ++ word_bytes (0x0210da7ab10c7a11
    ∷ 0x3b74f3e3f618ae48 ∷ 0x758963a25b77724 ∷ 0xc84daf14977c216b ∷ 0x289fb8a05c63e1f8 ∷ [])

-- the magic has another lowest byte
abbrev pub header_of_other_magic : List ℕ
header_of_other_magic =
    one_copy_at 5 ++ one_copy_at 6 ++ zeros 128 ++ zeros 88
    ++ word_bytes (0x0210da7ab10c7a12
    ∷ 0x58e46b7407187d57 ∷ 0xdd052115c3197ad9 ∷ 0xdc0acd0c45cd42a0 ∷ 0x5d5a88effc2fa3d5 ∷ [])

-- the checksum is off by one
abbrev pub header_of_other_sum : List ℕ
header_of_other_sum =
    header_with (one_copy_at 5 ++ one_copy_at 6 ++ zeros 128)
    (0x2bb5287c223b6020 ∷ 0x38cdf0a697b9fe77 ∷ 0x87bde43c40d050cc ∷ 0xfc7ff97caf80adb1 ∷ [])

-- made for birth 2
abbrev pub header_of_other_birth : List ℕ
header_of_other_birth =
    header_with (one_copy_at 5 ++ one_copy_at 6 ++ zeros 128)
    (0x7bfb722779a5719d ∷ 0x5c64d690743bca4e ∷ 0x81b35def64fb0036 ∷ 0x9b8f0f3836094694 ∷ [])

-- the members aren't those of two sectors: one too few, and one too many
abbrev pub header_of_one : List ℕ
header_of_one =
    header_with (one_copy_at 5 ++ zeros 128 ++ zeros 128)
    (0x5f32471c8596bb79 ∷ 0xfd837a9923aee3b1 ∷ 0x6714002b15d8a315 ∷ 0x934e3690382ba6b1 ∷ [])

abbrev pub header_of_three : List ℕ
header_of_three =
    header_with (one_copy_at 4 ++ one_copy_at 5 ++ one_copy_at 6)
    (0x60c59a415fcd51fe ∷ 0x255c5569fa9d9cb1 ∷ 0xfa95f8be834620bb ∷ 0x80a65aa44a8dbf73 ∷ [])

-- a member stands behind one that is absent
abbrev pub header_with_a_gap : List ℕ
header_with_a_gap =
    header_with (zeros 128 ++ one_copy_at 5 ++ one_copy_at 6)
    (0x1f6b6e10eec5852d ∷ 0x3dc3e409136e4d22 ∷ 0x77249dd6ede2ab22 ∷ 0x3c4d6ae99e1a484c ∷ [])

-- the second pointer has a place of no sectors
abbrev pub header_of_no_pointer : List ℕ
header_of_no_pointer =
    header_with (
    one_copy_at 5 ++ pointer_with (0 ∷ 5 ∷ 0 ∷ 0 ∷ 0 ∷ 0 ∷ []) 0x8000020200000000 1 no_sum ++ zeros 128)
    (0xe8c284aa0928fe16 ∷ 0xde4c0f97d3123795 ∷ 0x6827aa702ba25db ∷ 0xc73022eaa606757f ∷ [])

-- none of them is the header of two members for sector 3 and birth 1
abbrev pub BadHeadersAreRefused : Type 0
BadHeadersAreRefused =
    map (λ header. report (claim_x gang_of_two) (image_with header) []) (
    header_with_filler ∷ header_of_other_magic ∷ header_of_other_sum ∷ header_of_other_birth
    ∷ header_of_one ∷ header_of_three ∷ header_with_a_gap ∷ header_of_no_pointer ∷ [])
    ≡ replicate 8 (one_round "1 claim x ECKSUM")

-- the first member is a gang at sector 2, where no header is; the second is at sector 6, or outside the top
abbrev pub header_of_a_bad_gang : List ℕ
header_of_a_bad_gang =
    header_with (gang_of_one_at 2 ++ one_copy_at 6 ++ zeros 128)
    (0x9e76e233c79ecf12 ∷ 0xeee7b75f3c54700c ∷ 0xac09c03af1d34ad9 ∷ 0x5a1eba654617ce6f ∷ [])

abbrev pub header_of_a_bad_gang_and_9 : List ℕ
header_of_a_bad_gang_and_9 =
    header_with (gang_of_one_at 2 ++ one_copy_at 9 ++ zeros 128)
    (0xf1007bb6cfb63db1 ∷ 0xf2a77e7a6222ca60 ∷ 0x3e5b4f79995b9e21 ∷ 0xb3a1959b49ea8af0 ∷ [])

-- the first member is a gang outside the top
abbrev pub header_of_a_gang_outside : List ℕ
header_of_a_gang_outside =
    header_with (gang_of_one_at 9 ++ one_copy_at 6 ++ zeros 128)
    (0x524d57ff2654d0d1 ∷ 0xe1825815af332b3f ∷ 0x61f1e34bc6277a5d ∷ 0x738212fcbd4cc0e6 ∷ [])

-- of the errors of a tree the worst counts
abbrev pub ErrorsOfAClaimedTreeJoin : Type 0
ErrorsOfAClaimedTreeJoin =
    map (λ header. report (claim_x gang_of_two) (image_with header) [])
    (header_of_a_bad_gang ∷ header_of_a_bad_gang_and_9 ∷ header_of_a_gang_outside ∷ [])
    ≡ one_round "1 claim x ECKSUM" ∷ one_round "1 claim x EINVAL" ∷ one_round "1 claim x EINVAL" ∷ []

-- the header has the checksum of one that is made for this sector and birth
abbrev pub has_sum_for : ℕ → ℕ → List ℕ → Bool
has_sum_for sector birth header =
    bytes_eq (word_bytes (gang_sum_of header (place 0 sector 1) birth)) (drop 480 header)

-- but for the one whose sum is off by one they have the right checksum, so they are refused for other reasons
abbrev pub RefusedHeadersHaveTheirSums : Type 0
RefusedHeadersHaveTheirSums =
    (map (has_sum_for 3 1) (
    endless_header ∷ header_with_filler ∷ header_of_other_magic ∷ header_of_one ∷ header_of_three
    ∷ header_with_a_gap ∷ header_of_no_pointer ∷ header_of_a_bad_gang ∷ [])
    ++ has_sum_for 3 2 header_of_other_birth ∷ has_sum_for 7 1 eighth_header ∷ has_sum_for 8 1 ninth_header
    ∷ has_sum_for 3 1 header_of_other_sum ∷ [])
    ≡ replicate 11 true ++ false ∷ []

-- ---- places of a claimed gang

-- the second member lies where the first does, outside the top, and where the header lies
abbrev pub header_of_5_and_5 : List ℕ
header_of_5_and_5 =
    header_with (one_copy_at 5 ++ one_copy_at 5 ++ zeros 128)
    (0x5366ea935fcb62d2 ∷ 0xd0ae9d0dd4238338 ∷ 0xb7045cd9d83c26c0 ∷ 0x5ab1e4b5cf69ff36 ∷ [])

abbrev pub header_of_5_and_8 : List ℕ
header_of_5_and_8 =
    header_with (one_copy_at 5 ++ one_copy_at 8 ++ zeros 128)
    (0xb65b5d0be1f0c93c ∷ 0x9bca6b153a6fdada ∷ 0x8239d1cc048fb56 ∷ 0x2ba6e67c08a1cb7b ∷ [])

abbrev pub header_of_5_and_3 : List ℕ
header_of_5_and_3 =
    header_with (one_copy_at 5 ++ one_copy_at 3 ++ zeros 128)
    (0xaac7b0606eeed3cc ∷ 0xb8cecd0678b9bacf ∷ 0x7c34291af40891fc ∷ 0xf4c10c2066d09a69 ∷ [])

abbrev pub PlacesOfAClaimedGangStandApart : Type 0
PlacesOfAClaimedGangStandApart =
    map (λ header. report (claim_x gang_of_two) (image_with header) [])
    (header_of_5_and_5 ∷ header_of_5_and_8 ∷ header_of_5_and_3 ∷ [])
    ≡ one_round "1 claim x EEXIST" ∷ one_round "1 claim x EINVAL" ∷ one_round "1 claim x EEXIST" ∷ []

-- after them nothing is used
abbrev pub RefusedClaimTakesNothing : Type 0
RefusedClaimTakesNothing =
    map (λ header. used_after (claim_x gang_of_two) (image_with header) [])
    (header_of_5_and_5 ∷ header_of_5_and_8 ∷ header_of_5_and_3 ∷ [])
    ≡ replicate 3 []

-- a free gives back all that the claim took
abbrev pub FreedClaimUsesNoPlace : Type 0
FreedClaimUsesNoPlace =
    used_after
    (script Wait one_leaf [] (claim 1 (codes "x") gang_of_two ∷ Go ∷ free 2 (codes "x") ∷ Go ∷ []))
    (image_with good_header) []
    ≡ []

-- ---- devices

-- leaf 1 has five whole sectors, and so has the mirror
abbrev pub TopHasTheSectorsOfItsSmallestLeaf : Type 0
TopHasTheSectorsOfItsSmallestLeaf =
    report
    (script Wait mirror [] (
    claim 1 (codes "a") (one_copy_at 4) ∷ Go ∷ claim 2 (codes "b") (one_copy_at 5) ∷ Go ∷ []))
    (zeros 4096 ∷ zeros 3000 ∷ []) []
    ≡ lines (
    "pool 1 2"
    ∷ "round 1 batch 1 point 0"
    ∷ "1 claim a ok"
    ∷ "round 2 batch 2 point 0"
    ∷ "2 claim b EINVAL"
    ∷ "end 0" ∷ [])

-- a claim may always fail, so it doesn't wait for a device that is gone
abbrev pub ClaimHasTheDevicesError : Type 0
ClaimHasTheDevicesError =
    map (λ kind. report
    (script Wait one_leaf (fault 0 Read 0 1 kind ∷ []) (claim 1 (codes "x") gang_of_two ∷ Go ∷ []))
    (image_with good_header) [])
    (Eio ∷ Gone ∷ [])
    ≡ one_round "1 claim x EIO" ∷ one_round "1 claim x ENXIO" ∷ []

-- its headers are read in two passes, as any block is
abbrev pub ClaimReadsInTheRetry : Type 0
ClaimReadsInTheRetry =
    report
    (script Wait one_leaf (in_first_pass (fault 0 Read 0 1 Eio) ∷ []) (claim 1 (codes "x") gang_of_two ∷ Go ∷ []))
    (image_with good_header) []
    ≡ one_round "1 claim x ok"

-- two copies of the header, at sectors 2 and 3, which is made for the first
abbrev pub gang_of_two_copies : List ℕ
gang_of_two_copies =
    pointer_with (1 ∷ 0x8000000000000002 ∷ 1 ∷ 0x8000000000000003 ∷ 0 ∷ 0 ∷ []) 0x8000020200010001 1 no_sum

abbrev pub header_for_2 : List ℕ
header_for_2 =
    header_with (one_copy_at 5 ++ one_copy_at 6 ++ zeros 128)
    (0xf5986f096a81364 ∷ 0x87f96906c1ee8bf6 ∷ 0xf6ddd96a24dbc9cf ∷ 0x93e9947dd0b03d94 ∷ [])

-- the first copy is no header: the claim takes the second and mends nothing
abbrev pub ClaimMendsNothing : Type 0
ClaimMendsNothing =
    outcome (claim_x gang_of_two_copies) (image_with header_for_2) []
    ≡ record { text = one_round "1 claim x ok"; images = image_with header_for_2 }

-- a read of what was claimed mends it
abbrev pub ReadOfAClaimedGangMendsIt : Type 0
ReadOfAClaimedGangMendsIt =
    outcome (claim_and_read_x gang_of_two_copies) (image_with header_for_2) []
    ≡ record {
      text = lines (
          "pool 1 1"
          ∷ "round 1 batch 1 point 0"
          ∷ "1 claim x ok"
          ∷ "round 2 batch 2 point 0"
          ∷ "2 read x ok 1024 41c1c1c180:20e1a1a180c0:b0666e6dbe080:2c92f2784be5860"
          ∷ "end 0" ∷ []);
      images = image_of_two header_for_2 header_for_2;
    }

-- Bytes of pointers and headers, checksums, and the sizes of a gang's members.
use Rattle.std.specs.Prelude.{◌≡◌, ℕ, List, [], ◌∷◌, ◌++◌, ◌+◌, ◌^◌, map, take, replicate, codes, slice_set, Bool, true, false, Option, Some, None, is_some, Result, Ok, Err}
use Rattle.std.specs.List.{flat_map}
use Rattle.hex.specs.declared.error.FromHexError.{FromHexError}
use Rattle.hex.specs.Hex.{encode_lower, decode_of}
use Rattle.zio_blkptr.specs.declared.pointer.Bp.{Bp}
use Rattle.zio_blkptr.specs.declared.pointer.SumKind.{SumKind}
use Rattle.zio_blkptr.specs.declared.pointer.SumKind.TheVariants.{Off, Fletcher4, Sha256}
use Rattle.zio_blkptr.specs.Pointers.{spelling, pointer_of, word_of}
use Rattle.zio_cksum.specs.Headers.{header_of, gang_sum_of, split_sizes}
use Rattle.zio_cksum.specs.Sums.{sum_of, fits}
use Rattle.zio_worked.specs.Scripts.{place, zeros, no_sum, word_bytes}

-- ---- pointers

-- two sectors at byte 16384 of top 1, with the SHA-256 sum of the bytes "abc"
abbrev pub two_sectors_of_top_1 : Bp
two_sectors_of_top_1 = record {
  count = 1;
  places = place 1 32 2 ∷ place 0 0 0 ∷ place 0 0 0 ∷ [];
  gang = false;
  size = 1024;
  sum = Sha256;
  birth = 9;
  words = 0xba7816bf8f01cfea ∷ 0x414140de5dae2223 ∷ 0xb00361a396177a9c ∷ 0xb410ff61f20015ad ∷ [];
}

-- words 0, 1 and 6 have the place and the properties
abbrev pub PointerOfOnePlace : Type 0
PointerOfOnePlace =
    map (word_of (spelling two_sectors_of_top_1)) (0 ∷ 1 ∷ 6 ∷ [])
    ≡ 0x0000000100000002 ∷ 0x20 ∷ 0x8000080200010001 ∷ []

-- all of its 128 bytes, each word with its lowest byte first
abbrev pub PointerInHexadecimal : Type 0
PointerInHexadecimal =
    encode_lower (spelling two_sectors_of_top_1)
    ≡ codes "0200000001000000200000000000000000000000000000000000000000000000"
    ++ codes "0000000000000000000000000000000001000100020800800000000000000000"
    ++ codes "0000000000000000000000000000000009000000000000000100000000000000"
    ++ codes "eacf018fbf1678ba2322ae5dde4041419c7a1796a36103b0ad1500f261ff10b4"

-- a gang of the largest size, with every field as large as it may be
abbrev pub largest_pointer : Bp
largest_pointer = record {
  count = 3;
  places = place 0xffffff 0xffffffffffff 8 ∷ place 1 0xffffffffffff 4 ∷ place 0xffffff 2 1 ∷ [];
  gang = true;
  size = 1048576;
  sum = Fletcher4;
  birth = 0xffffffffffffffff;
  words = replicate 4 0xffffffffffffffff;
}

abbrev pub largest_words : List ℕ
largest_words =
    0x00ffffff00000008 ∷ 0x8000ffffffffffff ∷ 0x0000000100000004 ∷ 0x8000ffffffffffff
    ∷ 0x00ffffff00000001 ∷ 0x8000000000000002 ∷ 0x8000070207ff07ff ∷ 0 ∷ 0 ∷ 0 ∷ 0xffffffffffffffff ∷ 1
    ∷ replicate 4 0xffffffffffffffff

abbrev pub LargestPointerIsSpelled : Type 0
LargestPointerIsSpelled = spelling largest_pointer ≡ word_bytes largest_words

abbrev pub LargestPointerIsRead : Type 0
LargestPointerIsRead = pointer_of (word_bytes largest_words) ≡ Some largest_pointer

abbrev pub pointer_if : Result (List ℕ) FromHexError → Option Bp
pointer_if (Ok bytes) = pointer_of bytes
pointer_if (Err e) = None

-- the pointer of these hexadecimal digits
abbrev pub read_hexadecimal : List ℕ → Option Bp
read_hexadecimal digits = pointer_if (decode_of digits)

-- one sector at sector 4096 of top 0, fletcher4 with zero words
abbrev pub PointerOfFletcher4IsRead : Type 0
PointerOfFletcher4IsRead =
    read_hexadecimal (
    codes "01000000000000000010000000000000" ++ replicate 64 48 ++ codes "0000000002070080" ++ replicate 48 48
    ++ codes "01000000000000000100000000000000" ++ replicate 64 48)
    ≡ Some (record {
      count = 1;
      places = place 0 4096 1 ∷ place 0 0 0 ∷ place 0 0 0 ∷ [];
      gang = false;
      size = 512;
      sum = Fletcher4;
      birth = 1;
      words = no_sum;
    })

-- three copies of 41 sectors each, without a checksum
abbrev pub PointerOfThreeRunsIsRead : Type 0
PointerOfThreeRunsIsRead =
    read_hexadecimal (
    codes "290000000000000001000000000000002900000000000000"
    ++ codes "2b0000000000000029000000000000005500000000000000"
    ++ codes "2800280002020080" ++ replicate 48 48 ++ codes "01000000000000000100000000000000" ++ replicate 64 48)
    ≡ Some (record {
      count = 3;
      places = place 0 1 41 ∷ place 0 43 41 ∷ place 0 85 41 ∷ [];
      gang = false;
      size = 20992;
      sum = Off;
      birth = 1;
      words = no_sum;
    })

-- one sector at sector 4096, by its words
abbrev pub good_words : List ℕ
good_words = 1 ∷ 4096 ∷ 0 ∷ 0 ∷ 0 ∷ 0 ∷ 0x8000070200000000 ∷ 0 ∷ 0 ∷ 0 ∷ 1 ∷ 1 ∷ 0 ∷ 0 ∷ 0 ∷ 0 ∷ []

-- the same with another word there
abbrev pub changed : ℕ → ℕ → List ℕ
changed i w = slice_set good_words i w

abbrev pub is_pointer : List ℕ → Bool
is_pointer words = is_some (pointer_of (word_bytes words))

-- byte order, compression, embedded, checksum, type, level, encrypted, dedup, padding, birth and fill
abbrev pub FixedFieldsAreFixed : Type 0
FixedFieldsAreFixed =
    map is_pointer (
    changed 6 0x0000070200000000 ∷ changed 6 0x8000070300000000 ∷ changed 6 0x8000078200000000
    ∷ changed 6 0x8000030200000000 ∷ changed 6 0x8001070200000000 ∷ changed 6 0x8100070200000000
    ∷ changed 6 0xa000070200000000 ∷ changed 6 0xc000070200000000
    ∷ changed 7 1 ∷ changed 8 1 ∷ changed 9 1 ∷ changed 10 0 ∷ changed 11 0 ∷ changed 11 2 ∷ [])
    ≡ replicate 14 false

-- the logical size is the physical one, and the largest is 2,048 sectors
abbrev pub SizesHaveToFit : Type 0
SizesHaveToFit =
    map is_pointer (
    changed 6 0x8000070200000001 ∷ changed 6 0x8000070200010000 ∷ changed 6 0x8000070200010001
    ∷ slice_set (changed 6 0x8000070208000800) 0 2049
    ∷ slice_set (changed 6 0x8000070207ff07ff) 0 2048 ∷ slice_set (changed 6 0x8000070200010001) 0 2 ∷ [])
    ≡ false ∷ false ∷ false ∷ false ∷ true ∷ true ∷ []

-- 1,536 bytes at two places of so many sectors, or a gang's places with these
abbrev pub of_two_places : ℕ → ℕ → ℕ → List ℕ
of_two_places gang a b =
    slice_set (slice_set (slice_set (slice_set (changed 6 0x8000070200020002) 0 a) 1 (gang + 8)) 2 b) 3 (gang + 16)

-- a place has the sectors of the size, or 1 for a gang, rounded up to 1, 2, 4 or 8, whatever the other has
abbrev pub PlacesAreRoundedUp : Type 0
PlacesAreRoundedUp =
    map is_pointer (
    of_two_places 0 3 3 ∷ of_two_places 0 4 8 ∷ of_two_places 0 8 3
    ∷ of_two_places (2 ^ 63) 1 1 ∷ of_two_places (2 ^ 63) 2 8 ∷ of_two_places (2 ^ 63) 4 1 ∷ [])
    ≡ replicate 6 true

-- no other number is one
abbrev pub OtherRoundingsAreRefused : Type 0
OtherRoundingsAreRefused =
    map is_pointer (
    of_two_places 0 5 3 ∷ of_two_places 0 3 6 ∷ of_two_places 0 2 3 ∷ of_two_places 0 16 4 ∷ of_two_places 0 1 1
    ∷ of_two_places (2 ^ 63) 3 1 ∷ of_two_places (2 ^ 63) 1 16 ∷ of_two_places (2 ^ 63) 3 3 ∷ [])
    ≡ replicate 8 false

-- no sectors, grid bits, bits above the top, a sector of 2 ^ 48, a place behind an absent one, bits in an absent place,
-- and gang bits that differ
abbrev pub PlacesHaveToFit : Type 0
PlacesHaveToFit =
    map is_pointer (
    changed 0 0 ∷ changed 0 0x1000001 ∷ changed 0 0x100000000000001 ∷ changed 1 0x1000000000000
    ∷ changed 4 1 ∷ changed 2 0x100000000 ∷ changed 3 5 ∷ changed 3 0x8000000000000000 ∷ changed 5 0x8000000000000000
    ∷ slice_set (changed 2 1) 3 0x8000000000000007
    ∷ slice_set (changed 2 1) 3 7
    ∷ changed 0 0xffffff00000001 ∷ changed 1 0xffffffffffff ∷ changed 1 0x8000000000001000 ∷ [])
    ≡ replicate 10 false ++ replicate 4 true

-- without a checksum the words may be any
abbrev pub WordsWithoutAChecksumMayBeAny : Type 0
WordsWithoutAChecksumMayBeAny =
    map is_pointer (changed 6 0x8000020200000000 ∷ slice_set (changed 6 0x8000020200000000) 15 0xffffffffffffffff ∷ [])
    ≡ true ∷ true ∷ []

-- a pointer has 128 bytes
abbrev pub LengthHasToFit : Type 0
LengthHasToFit =
    map (λ bytes. is_some (pointer_of bytes)) (
    word_bytes good_words ∷ take 127 (word_bytes good_words) ∷ (word_bytes good_words ++ 0 ∷ []) ∷ [] ∷ [])
    ≡ true ∷ false ∷ false ∷ false ∷ []

-- ---- checksums

-- so many words of 32 bits, of the value 1
abbrev pub ones : ℕ → List ℕ
ones n = flat_map (λ (w : ℕ). w ∷ 0 ∷ 0 ∷ 0 ∷ []) (replicate n 1)

-- the sums over n ones are the numbers of choices of 1, 2, 3 and 4 among n, n + 1, n + 2 and n + 3
abbrev pub Fletcher4OfOnes : Type 0
Fletcher4OfOnes = sum_of Fletcher4 (ones 128) ≡ 128 ∷ 8256 ∷ 357760 ∷ 11716640 ∷ []

-- nothing, one word with its lowest byte first, and two of the largest words, whose sums have more than 32 bits
abbrev pub Fletcher4OfShortBytes : Type 0
Fletcher4OfShortBytes =
    map (sum_of Fletcher4) ([] ∷ (1 ∷ 2 ∷ 3 ∷ 4 ∷ []) ∷ replicate 8 0xff ∷ [])
    ≡ (0 ∷ 0 ∷ 0 ∷ 0 ∷ [])
    ∷ (0x4030201 ∷ 0x4030201 ∷ 0x4030201 ∷ 0x4030201 ∷ [])
    ∷ (0x1fffffffe ∷ 0x2fffffffd ∷ 0x3fffffffc ∷ 0x4fffffffb ∷ []) ∷ []

-- over 600 of the largest words the fourth sum passes 2 ^ 64
abbrev pub Fletcher4Wraps : Type 0
Fletcher4Wraps =
    sum_of Fletcher4 (replicate 2400 0xff)
    ≡ 0x257fffffda8 ∷ 0x2c04bfffd3fb4 ∷ 0x22810e7fdd7ef18 ∷ 0x4517f49cbae80b62 ∷ []

-- the example of one block in FIPS 180-4
abbrev pub Sha256OfAbc : Type 0
Sha256OfAbc =
    sum_of Sha256 (codes "abc") ≡ 0xba7816bf8f01cfea ∷ 0x414140de5dae2223 ∷ 0xb00361a396177a9c ∷ 0xb410ff61f20015ad ∷ []

-- the example of two blocks
abbrev pub Sha256OfTwoBlocks : Type 0
Sha256OfTwoBlocks =
    sum_of Sha256 (codes "abcdbcdecdefdefgefghfghighijhijkijkljklmklmnlmnomnopnopq")
    ≡ 0x248d6a61d20638b8 ∷ 0xe5c026930c3e6039 ∷ 0xa33ce45964ff2167 ∷ 0xf6ecedd419db06c1 ∷ []

abbrev pub Sha256OfNothing : Type 0
Sha256OfNothing =
    sum_of Sha256 [] ≡ 0xe3b0c44298fc1c14 ∷ 0x9afbf4c8996fb924 ∷ 0x27ae41e4649b934c ∷ 0xa495991b7852b855 ∷ []

-- the words of no checksum are zeros
abbrev pub OffChecksNothing : Type 0
OffChecksNothing = sum_of Off (codes "abcd") ≡ no_sum

abbrev pub BytesFitTheirSum : Type 0
BytesFitTheirSum =
    map (λ (kind : SumKind). fits kind (0x4030201 ∷ 0x4030201 ∷ 0x4030201 ∷ 0x4030201 ∷ []) (1 ∷ 2 ∷ 3 ∷ 4 ∷ []))
    (Off ∷ Fletcher4 ∷ Sha256 ∷ [])
    ≡ true ∷ true ∷ false ∷ []

abbrev pub OtherWordsDontFit : Type 0
OtherWordsDontFit =
    map (λ (kind : SumKind). fits kind (0x4030201 ∷ 0x4030201 ∷ 0x4030201 ∷ 0x4030202 ∷ []) (1 ∷ 2 ∷ 3 ∷ 4 ∷ []))
    (Off ∷ Fletcher4 ∷ Sha256 ∷ [])
    ≡ true ∷ false ∷ false ∷ []

-- ---- gangs

-- each member has a third, a half and all of what is left, in whole sectors
abbrev pub SplitInAtMostThree : Type 0
SplitInAtMostThree =
    map split_sizes (131072 ∷ 2560 ∷ 2048 ∷ 1536 ∷ 1024 ∷ 512 ∷ 1048576 ∷ [])
    ≡ (44032 ∷ 43520 ∷ 43520 ∷ []) ∷ (1024 ∷ 1024 ∷ 512 ∷ []) ∷ (1024 ∷ 512 ∷ 512 ∷ []) ∷ (512 ∷ 512 ∷ 512 ∷ [])
    ∷ (512 ∷ 512 ∷ []) ∷ (512 ∷ []) ∷ (349696 ∷ 349696 ∷ 349184 ∷ []) ∷ []

-- A header's checksum is the SHA-256 sum of 480 bytes 0x41 and the words 2, 1536, 7 and 0: the top, the byte offset
-- and the birth. What stands where the checksum will doesn't matter.
abbrev pub HeaderSumHasPlaceAndBirth : Type 0
HeaderSumHasPlaceAndBirth =
    map (λ header. gang_sum_of header (place 2 3 1) 7) (replicate 480 65 ∷ (replicate 480 65 ++ replicate 32 255) ∷ [])
    ≡ replicate 2 (0x17d382916440d7ed ∷ 0xeddcba5e32f43b82 ∷ 0x58987e042e4a159d ∷ 0xf76b9781157f3c3c ∷ [])

-- the same by the sum itself
abbrev pub HeaderSumIsSha256 : Type 0
HeaderSumIsSha256 =
    gang_sum_of (replicate 480 65) (place 2 3 1) 7
    ≡ sum_of Sha256 (replicate 480 65 ++ word_bytes (2 ∷ 1536 ∷ 7 ∷ 0 ∷ []))

-- a header without members: 472 zeros, the magic, and 32 bytes of checksum
abbrev pub HeaderHasItsMagic : Type 0
HeaderHasItsMagic =
    take 480 (header_of (None ∷ None ∷ None ∷ []) (place 0 3 1) 1)
    ≡ zeros 472 ++ 0x11 ∷ 0x7a ∷ 0x0c ∷ 0xb1 ∷ 0x7a ∷ 0xda ∷ 0x10 ∷ 0x02 ∷ []

-- Which bytes spell no pointer, and why: the parts of their words, and the first fault that they have.
-- docs/FORMATS.md, "Block pointer".
use Rattle.std.specs.Prelude.{ℕ, ◌+◌, ◌*◌, ◌/◌, ◌%◌, ◌^◌, List, Bool, not, ◌&&◌, ◌||◌, ◌==◌, nat_lt, nat_le, Option, Some, None, if◌then◌else◌}
use Rattle.zio_types.specs.Places.{sector_size}
use Rattle.zio_blkptr.specs.declared.pointer.BpFault.{BpFault}
use Rattle.zio_blkptr.specs.declared.pointer.BpFault.TheVariants.{Order, Field, Size, Dva}
use Rattle.zio_blkptr.specs.declared.parts.TheConstants.{COMPRESSION_OFF}
use Rattle.zio_blkptr.specs.declared.pointer.SumKind.TheVariants.{Off, Fletcher4, Sha256}
use Rattle.zio_blkptr.specs.declared.pointer.TheConstants.{BLOCK_SIZE_MAX, SECTOR_END}
use Rattle.zio_blkptr.specs.Pointers.{word_of, is_rounding_of, sum_number}

-- ---- the parts of a word

-- so many bits of a word, from the first of them on
abbrev pub bits : ℕ → ℕ → ℕ → ℕ
bits word first count = word / 2 ^ first % 2 ^ count

-- the word of properties; both sizes are in sectors less 1
abbrev pub logical_size : ℕ → ℕ
logical_size w = bits w 0 16

-- the size as stored
abbrev pub physical_size : ℕ → ℕ
physical_size w = bits w 16 16

-- the number of a compression, off alone
abbrev pub compression : ℕ → ℕ
compression w = bits w 32 7

-- no block is embedded in its pointer
abbrev pub embedded : ℕ → ℕ
embedded w = bits w 39 1

-- the number of the checksum kind
abbrev pub checksum : ℕ → ℕ
checksum w = bits w 40 8

-- the type of the content, which has no number here
abbrev pub content_type : ℕ → ℕ
content_type w = bits w 48 8

-- the level, always 0
abbrev pub level : ℕ → ℕ
level w = bits w 56 5

-- no block is encrypted
abbrev pub encrypted : ℕ → ℕ
encrypted w = bits w 61 1

-- no block is shared
abbrev pub dedup : ℕ → ℕ
dedup w = bits w 62 1

-- the byte order, 1 for little-endian
abbrev pub byte_order : ℕ → ℕ
byte_order w = bits w 63 1

-- the first word of a place
abbrev pub place_sectors : ℕ → ℕ
place_sectors w = bits w 0 24

-- the grid, always 0
abbrev pub grid : ℕ → ℕ
grid w = bits w 24 8

-- the bits above the top's number
abbrev pub above_top : ℕ → ℕ
above_top w = bits w 56 8

-- its second word
abbrev pub place_sector : ℕ → ℕ
place_sector w = bits w 0 63

-- the pointer is a gang's
abbrev pub gang_bit : ℕ → ℕ
gang_bit w = bits w 63 1

-- ---- the faults

-- the byte order isn't little-endian
abbrev pub has_order_fault : List ℕ → Bool
has_order_fault bytes = byte_order (word_of bytes 6) == 0

-- the number of a checksum kind
abbrev pub is_sum_number : ℕ → Bool
is_sum_number n = (n == sum_number Off) || (n == sum_number Fletcher4) || (n == sum_number Sha256)

-- compression is off, the checksum is one of the three, and all else is zero
abbrev pub has_fixed_properties : ℕ → Bool
has_fixed_properties w =
    (compression w == COMPRESSION_OFF) && (embedded w == 0) && is_sum_number (checksum w) && (content_type w == 0)
    && (level w == 0) && (encrypted w == 0) && (dedup w == 0)

-- three words are zero, there is a birth, and the fill is 1
abbrev pub are_fixed_words : ℕ → ℕ → ℕ → ℕ → ℕ → Bool
are_fixed_words seven eight nine birth fill =
    (seven == 0) && (eight == 0) && (nine == 0) && nat_lt 0 birth && (fill == 1)

-- a field has another than its fixed value
abbrev pub has_field_fault : List ℕ → Bool
has_field_fault bytes = not (
    has_fixed_properties (word_of bytes 6)
    && are_fixed_words
    (word_of bytes 7) (word_of bytes 8) (word_of bytes 9) (word_of bytes 10) (word_of bytes 11)
    )

-- the sizes are equal and not too large
abbrev pub has_fitting_size : ℕ → Bool
has_fitting_size w =
    (logical_size w == physical_size w) && nat_le ((logical_size w + 1) * sector_size) BLOCK_SIZE_MAX

-- the sizes differ or are too large
abbrev pub has_size_fault : List ℕ → Bool
has_size_fault bytes = not (has_fitting_size (word_of bytes 6))

-- place i has sectors
abbrev pub has_place : List ℕ → ℕ → Bool
has_place bytes i = nat_lt 0 (place_sectors (word_of bytes (2 * i)))

-- the sectors of what lies at a place with this second word: a header by its own gang bit, else the block
abbrev pub sectors_at : ℕ → ℕ → ℕ
sectors_at v properties = if gang_bit v == 1 then 1 else logical_size properties + 1

-- two words of a place that stores so many sectors, rounded up, with this gang bit, its other bits zero
abbrev pub is_place_of : ℕ → ℕ → ℕ → ℕ → Bool
is_place_of stored gang u v =
    is_rounding_of (place_sectors u) stored && (grid u == 0) && (above_top u == 0)
    && nat_lt (place_sector v) SECTOR_END && (gang_bit v == gang)

-- two words of no place
abbrev pub is_no_place : ℕ → ℕ → Bool
is_no_place u v = (u == 0) && (v == 0)

-- place i is one of this block with the gang bit of the first, or both its words are zero
abbrev pub is_good_place : List ℕ → ℕ → Bool
is_good_place bytes i =
    if has_place bytes i
    then is_place_of
    (sectors_at (word_of bytes (2 * i + 1)) (word_of bytes 6)) (gang_bit (word_of bytes 1))
    (word_of bytes (2 * i)) (word_of bytes (2 * i + 1))
    else is_no_place (word_of bytes (2 * i)) (word_of bytes (2 * i + 1))

-- there is a first place, and no third without a second
abbrev pub has_places_in_front : List ℕ → Bool
has_places_in_front bytes = has_place bytes 0 && (has_place bytes 1 || not (has_place bytes 2))

-- each of the three places is good
abbrev pub are_good_places : List ℕ → Bool
are_good_places bytes = is_good_place bytes 0 && is_good_place bytes 1 && is_good_place bytes 2

-- places don't stand from the front, or one of them is wrong
abbrev pub has_dva_fault : List ℕ → Bool
has_dva_fault bytes = not (has_places_in_front bytes && are_good_places bytes)

-- the first fault that the bytes have
abbrev pub first_fault : List ℕ → Option BpFault
first_fault bytes =
    if has_order_fault bytes then Some Order
    else if has_field_fault bytes then Some Field
    else if has_size_fault bytes then Some Size
    else if has_dva_fault bytes then Some Dva
    else None

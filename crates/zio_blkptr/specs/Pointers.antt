-- Which block pointers are valid, the 128 bytes that spell one, and the pointer that bytes spell. The table
-- of the words stands in docs/FORMATS.md, "Block pointer".
use Rattle.std.specs.Prelude.{◌≡◌, ℕ, ◌+◌, ◌-◌, ◌*◌, ◌/◌, ◌%◌, ◌^◌, ◌<◌, List, [], ◌∷◌, ◌++◌, length, take, drop, replicate, Bool, true, false, ◌&&◌, Option, ◌==◌, nat_lt, nat_le, bytes_eq, take_while, if◌then◌else◌, IsTrue}
use Rattle.std.specs.Bool.{then_some}
use Rattle.std.specs.Int.{w64, to_le_bytes, from_le_bytes}
use Rattle.std.specs.List.{list_all, list_any, flat_map, AllByRecursion}
use Rattle.zio_types.specs.declared.place.Place.{Place}
use Rattle.zio_types.specs.Filled.{filled_to}
use Rattle.zio_types.specs.Places.{rounded_to, sector_size}
use Rattle.zio_blkptr.specs.declared.parts.TheConstants.{COMPRESSION_OFF, LITTLE_ENDIAN}
use Rattle.zio_blkptr.specs.declared.pointer.Bp.{Bp}
use Rattle.zio_blkptr.specs.declared.pointer.SumKind.{SumKind}
use Rattle.zio_blkptr.specs.declared.pointer.SumKind.TheVariants.{Off, Fletcher4, Sha256}
use Rattle.zio_types.specs.declared.place.TheConstants.{COPIES_MAX}
use Rattle.zio_blkptr.specs.declared.pointer.TheConstants.{BLOCK_SIZE_MAX, SECTOR_END, TOP_END}

-- the places that the pointer counts
abbrev pub places_of : Bp → List Place
places_of bp = take bp.count bp.places

-- ---- how many sectors a place has

-- so many sectors are n, rounded up to a multiple of 1, 2, 4 or 8
abbrev pub is_rounding_of : ℕ → ℕ → Bool
is_rounding_of sectors n = list_any (λ unit. sectors == rounded_to unit n) (1 ∷ 2 ∷ 4 ∷ 8 ∷ [])

-- the sectors of what lies at each place: a gang's header, or the whole block
abbrev pub sectors_stored : Bp → ℕ
sectors_stored bp = if bp.gang then 1 else bp.size / sector_size

-- ---- validity

-- a place that isn't there: all its fields are zero
abbrev pub is_absent : Place → Bool
is_absent p = (p.sectors == 0) && (p.top == 0) && (p.sector == 0)

-- a place of the pointer: it has a rounding of its own, and its top and its first sector are in range
abbrev pub is_present : Bp → Place → Bool
is_present bp p =
    is_rounding_of p.sectors (sectors_stored bp) && nat_lt p.top TOP_END && nat_lt p.sector SECTOR_END

-- a size of whole sectors, up to the largest block's
abbrev pub is_block_size : ℕ → Bool
is_block_size size = (size % sector_size == 0) && nat_le sector_size size && nat_le size BLOCK_SIZE_MAX

-- one to three places and nothing behind them, a block's size, and a birth
abbrev pub valid : Bp → Bool
valid bp =
    nat_le 1 bp.count && nat_le bp.count COPIES_MAX
    && list_all (is_present bp) (places_of bp) && list_all is_absent (drop bp.count bp.places)
    && is_block_size bp.size && nat_le 1 bp.birth

-- ---- spelling

-- a word is eight bytes, the lowest first
abbrev pub word : ℕ → List ℕ
word n = to_le_bytes w64 n

-- the gang bit
abbrev pub bit : Bool → ℕ
bit false = 0
bit true = 1

-- the number of a checksum kind
abbrev pub sum_number : SumKind → ℕ
sum_number Off = 2
sum_number Fletcher4 = 7
sum_number Sha256 = 8

-- a place is two words: its sectors and its top, its first sector and the gang bit
abbrev pub place_spelling : Bool → Place → List ℕ
place_spelling gang p = word (p.sectors + p.top * 2 ^ 32) ++ word (p.sector + bit gang * 2 ^ 63)

-- both sizes in sectors less 1, compression off, the checksum's number, and the byte order
abbrev pub properties : Bp → ℕ
properties bp =
    (bp.size / sector_size - 1) + (bp.size / sector_size - 1) * 2 ^ 16 + COMPRESSION_OFF * 2 ^ 32
    + sum_number bp.sum * 2 ^ 40 + LITTLE_ENDIAN * 2 ^ 63

-- the 128 bytes of a pointer: three places, the properties, three words of 0, the birth, the fill of 1, and
-- the checksum
abbrev pub spelling : Bp → List ℕ
spelling bp =
    filled_to 0 48 (flat_map (place_spelling bp.gang) (places_of bp))
    ++ word (properties bp) ++ replicate 24 0 ++ word bp.birth ++ word 1 ++ flat_map word bp.words

-- ---- the pointer that bytes spell

-- word i of the bytes
abbrev pub word_of : List ℕ → ℕ → ℕ
word_of bytes i = from_le_bytes w64 (take 8 (drop (8 * i) bytes))

-- the checksum kind of a number
abbrev pub sum_of_number : ℕ → SumKind
sum_of_number n =
    if n == sum_number Fletcher4 then Fletcher4 else (if n == sum_number Sha256 then Sha256 else Off)

-- place i by its two words
abbrev pub place_field : List ℕ → ℕ → Place
place_field bytes i = record {
  top = word_of bytes (2 * i) / 2 ^ 32 % 2 ^ 24;
  sector = word_of bytes (2 * i + 1) % 2 ^ 63;
  sectors = word_of bytes (2 * i) % 2 ^ 24;
}

-- the three places
abbrev pub place_fields : List ℕ → List Place
place_fields bytes = place_field bytes 0 ∷ place_field bytes 1 ∷ place_field bytes 2 ∷ []

-- the place is there
abbrev pub has_sectors : Place → Bool
has_sectors p = nat_lt 0 p.sectors

-- what stands in the fields that vary, whatever the others hold
abbrev pub fields : List ℕ → Bp
fields bytes = record {
  count = length (take_while has_sectors (place_fields bytes));
  places = place_fields bytes;
  gang = word_of bytes 1 / 2 ^ 63 == 1;
  size = (word_of bytes 6 % 2 ^ 16 + 1) * sector_size;
  sum = sum_of_number (word_of bytes 6 / 2 ^ 40 % 2 ^ 8);
  birth = word_of bytes 10;
  words = word_of bytes 12 ∷ word_of bytes 13 ∷ word_of bytes 14 ∷ word_of bytes 15 ∷ [];
}

-- the bytes are the spelling of this pointer, which is valid
abbrev pub spells : Bp → List ℕ → Bool
spells bp bytes = valid bp && bytes_eq (spelling bp) bytes

-- the one valid pointer that the bytes spell, none where they spell none
abbrev pub pointer_of : List ℕ → Option Bp
pointer_of bytes = then_some (spells (fields bytes) bytes) (fields bytes)

-- ---- what the types of a pointer's fields say of it

-- Three places, four words of a checksum, and each word below 2^64.
pub record FitsTypes (bp : Bp) : Type 0 where
  pub places : length bp.places ≡ 3
  pub birth : bp.birth < 2 ^ 64
  pub words : length bp.words ≡ 4
  pub each_word : AllByRecursion (λ w. w < 2 ^ 64) bp.words

-- The bytes spell this valid pointer.
pub record Spells (bytes : List ℕ) (bp : Bp) : Type 0 where
  pub types : FitsTypes bp
  pub valid : IsTrue (valid bp)
  pub spelled : bytes ≡ spelling bp

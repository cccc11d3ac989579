-- Gang headers: the sizes of a gang's members, the bytes of a header and the members that it names.
-- docs/FORMATS.md, "Gang header".
use Rattle.std.specs.Prelude.{◌≡◌, ℕ, ◌+◌, ◌-◌, ◌*◌, ◌/◌, List, [], ◌∷◌, ◌++◌, map, take, drop, replicate, filter, filter_map, Bool, ◌&&◌, Option, Some, None, nat_lt, bytes_eq, IsTrue}
use Rattle.std.specs.List.{flat_map, AllByRecursion}
use Rattle.zio_types.specs.declared.place.Place.{Place}
use Rattle.zio_types.specs.Filled.{filled_to}
use Rattle.zio_types.specs.Places.{sector_size}
pub use Rattle.zio_types.specs.Places.{rounded_up}
use Rattle.zio_blkptr.specs.declared.pointer.Bp.{Bp}
use Rattle.zio_blkptr.specs.Pointers.{word, spelling, pointer_of, valid, FitsTypes}
use Rattle.zio_cksum.specs.Sums.{sha256_words}

-- ---- the members' sizes

-- what the first, the second and the third member get of what is left
abbrev pub first_size : ℕ → ℕ
first_size size = rounded_up (size / 3)

-- the second: half of what the first leaves
abbrev pub second_size : ℕ → ℕ
second_size size = rounded_up ((size - first_size size) / 2)

-- the third: what both leave
abbrev pub third_size : ℕ → ℕ
third_size size = rounded_up (size - first_size size - second_size size)

-- the sizes of the members of a block, without those of nothing
-- Rule: gang fallback.
abbrev pub split_sizes : ℕ → List ℕ
split_sizes size = filter (λ n. nat_lt 0 n) (first_size size ∷ second_size size ∷ third_size size ∷ [])

-- ---- the header

-- how many members a gang has at most
abbrev pub members_max : ℕ
members_max = 3

-- the word that tells a gang header
abbrev pub header_magic : ℕ
header_magic = 0x0210da7ab10c7a11

-- the first byte of a place on its top
abbrev pub offset_of : Place → ℕ
offset_of p = p.sector * sector_size

-- a member's pointer, or zeros for none
abbrev pub member_bytes : Option Bp → List ℕ
member_bytes None = replicate 128 0
member_bytes (Some bp) = spelling bp

-- all of a header but its sum: three pointers, the filler and the magic
abbrev pub header_front : List (Option Bp) → List ℕ
header_front members = flat_map member_bytes members ++ replicate 88 0 ++ word header_magic

-- the sum of a header that is made for this place and birth, which stand where its sum will
abbrev pub gang_sum_of : List ℕ → Place → ℕ → List ℕ
gang_sum_of header place birth =
    sha256_words (take 480 header ++ word place.top ++ word (offset_of place) ++ word birth ++ word 0)

-- the header of three members, each a pointer or none
-- Rule: gang header write.
abbrev pub header_of : List (Option Bp) → Place → ℕ → List ℕ
header_of members place birth =
    header_front members ++ flat_map word (gang_sum_of (header_front members) place birth)

-- The bytes are the header of these members, which are present from the front and have the sizes of a block's.
pub record Heads (bytes : List ℕ) (place : Place) (birth size : ℕ) (members : List Bp) : Type 0 where
  pub spelled : bytes ≡ header_of (filled_to None members_max (map Some members)) place birth
  pub types : AllByRecursion FitsTypes members
  pub valid : AllByRecursion (λ m. IsTrue (valid m)) members
  pub sizes : map (λ m. m.size) members ≡ split_sizes size

-- ---- what bytes name

-- the three pointers' bytes
abbrev pub slots : List ℕ → List (List ℕ)
slots bytes = take 128 bytes ∷ take 128 (drop 128 bytes) ∷ take 128 (drop 256 bytes) ∷ []

-- those of the three that are pointers
abbrev pub members_of : List ℕ → List Bp
members_of bytes = filter_map pointer_of (slots bytes)

-- the bytes are the header of some members
-- Rule: header goodness.
abbrev pub is_header : Place → ℕ → ℕ → List ℕ → Bool
is_header place birth size bytes =
    bytes_eq (header_of (filled_to None members_max (map Some (members_of bytes))) place birth) bytes
    && bytes_eq (map (λ m. m.size) (members_of bytes)) (split_sizes size)

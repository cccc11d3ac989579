-- Which bytes are no header of a gang, and why: the first fault that they have. docs/FORMATS.md, "Gang header".
use Rattle.std.specs.Prelude.{◌≡◌, ℕ, ◌*◌, ◌<◌, ◌≤◌, List, [], map, take, drop, replicate, length, slice_get, Bool, false, not, ◌&&◌, ◌||◌, Option, Some, None, is_none, bytes_eq, if◌then◌else◌}
use Rattle.std.specs.List.{flat_map, cons_option}
use Rattle.zio_types.specs.declared.place.Place.{Place}
use Rattle.zio_blkptr.specs.declared.pointer.Bp.{Bp}
use Rattle.zio_blkptr.specs.Pointers.{word, pointer_of}
use Rattle.zio_cksum.specs.Headers.{header_magic, gang_sum_of, members_of, split_sizes}
use Rattle.zio_gang.specs.declared.header.Header.{Header}
use Rattle.zio_gang.specs.declared.header.HeaderFault.{HeaderFault}
use Rattle.zio_gang.specs.declared.header.HeaderFault.TheVariants.{Magic, Sum, Filler, Member, Sizes}

-- ---- the faults

-- the magic is another
unfoldable pub has_magic_fault : List ℕ → Bool
has_magic_fault bytes = not (bytes_eq (take 8 (drop 472 bytes)) (word header_magic))

-- the sum isn't the one for this place and birth
unfoldable pub has_sum_fault : Place → ℕ → List ℕ → Bool
has_sum_fault place birth bytes = not (bytes_eq (drop 480 bytes) (flat_map word (gang_sum_of bytes place birth)))

-- a byte of the filler isn't zero
unfoldable pub has_filler_fault : List ℕ → Bool
has_filler_fault bytes = not (bytes_eq (take 88 (drop 384 bytes)) (replicate 88 0))

-- the bytes of pointer i
abbrev pub slot_at : List ℕ → ℕ → List ℕ
slot_at bytes i = take 128 (drop (128 * i) bytes)

-- an absent pointer is all zeros
abbrev pub is_vacant : List ℕ → Bool
is_vacant slot = bytes_eq slot (replicate 128 0)

-- a present pointer that spells none
abbrev pub is_garbled : List ℕ → Bool
is_garbled slot = not (is_vacant slot) && is_none (pointer_of slot)

-- the first pointer is absent, or the third stands behind an absent one, or a present one spells none
abbrev pub are_no_members : List ℕ → List ℕ → List ℕ → Bool
are_no_members first second third =
    is_vacant first || (is_vacant second && not (is_vacant third))
    || is_garbled first || is_garbled second || is_garbled third

-- the pointers are no members from the front
unfoldable pub has_member_fault : List ℕ → Bool
has_member_fault bytes = are_no_members (slot_at bytes 0) (slot_at bytes 1) (slot_at bytes 2)

-- the members aren't as many and as large as those of a block of this size
unfoldable pub has_sizes_fault : ℕ → List ℕ → Bool
has_sizes_fault size bytes = not (bytes_eq (map (λ m. m.size) (members_of bytes)) (split_sizes size))

-- the first fault that the bytes have as the header made for this place and birth, of a block of this size
abbrev pub first_header_fault : Place → ℕ → ℕ → List ℕ → Option HeaderFault
first_header_fault place birth size bytes =
    if has_magic_fault bytes then Some Magic
    else (if has_sum_fault place birth bytes then Some Sum
    else (if has_filler_fault bytes then Some Filler
    else (if has_member_fault bytes then Some Member
    else (if has_sizes_fault size bytes then Some Sizes
    else None))))

-- ---- what a header names

-- The header names these members, one to three, and the first once more in what is left of its three.
pub record Names (header : Header) (members : List Bp) : Type 0 where
  pub least : 1 ≤ header.n
  pub most : header.n ≤ 3
  pub count : header.n ≡ length members
  pub front : take header.n header.members ≡ members
  pub rest : (k : ℕ) → header.n ≤ k → k < 3 → slice_get header.members k ≡ slice_get header.members 0

-- ---- its slots

-- The slot holds this pointer, or nothing.
pub record Holds (slot : List ℕ) (member : Option Bp) : Type 0 where
  pub vacant : is_vacant slot ≡ is_none member
  pub sound : is_garbled slot ≡ false
  pub read : pointer_of slot ≡ member

-- of three members the first is none, or the third stands behind none
abbrev pub are_scattered : Option Bp → Option Bp → Option Bp → Bool
are_scattered first second third = is_none first || (is_none second && not (is_none third))

-- those of the three that are there
abbrev pub present : Option Bp → Option Bp → Option Bp → List Bp
present first second third = cons_option first (cons_option second (cons_option third []))

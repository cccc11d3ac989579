-- What a write stores, and where: its content, the asks for places, and the gang that takes the place of a block for
-- which no run is free.
use Rattle.std.specs.Prelude.{ℕ, zero, suc, ◌+◌, ◌-◌, ◌%◌, min, List, [], ◌∷◌, ◌++◌, length, take, drop, replicate, find, slice_index_or, Bool, true, false, Option, Some, None, nat_le, nat_lt}
use Rattle.std.specs.List.{flat_map}
use Rattle.zio_types.specs.declared.error.Errno.{Errno}
use Rattle.zio_types.specs.declared.error.Errno.TheVariants.{Nospc}
use Rattle.zio_types.specs.declared.journal.Role.{Role}
use Rattle.zio_types.specs.declared.journal.Role.TheVariants.{Body, Head as HeadRole}
use Rattle.zio_types.specs.declared.place.Place.{Place}
use Rattle.zio_types.specs.Choices.{Ask, Choice, no_place, same_ask}
use Rattle.zio_types.specs.Errors.{worst_error, worst_of}
use Rattle.zio_types.specs.Filled.{filled_to}
use Rattle.zio_types.specs.Paths.{path_steps_max}
use Rattle.zio_types.specs.Places.{sector_size}
use Rattle.zio_blkptr.specs.declared.pointer.Bp.{Bp}
use Rattle.zio_blkptr.specs.declared.pointer.SumKind.{SumKind}
use Rattle.zio_cksum.specs.Blocks.{write_piece}
use Rattle.zio_cksum.specs.Headers.{split_sizes, members_max, member_bytes, header_of}
use Rattle.zio_cksum.specs.Images.{Images, Setting, Written}
use Rattle.zio_cksum.specs.Sums.{sum_of}
use Rattle.zio_gang.specs.declared.tree.Head.{Head}

-- ---- content

-- zeros up to whole sectors
abbrev pub padded : List ℕ → List ℕ
padded bytes = bytes ++ replicate ((sector_size - length bytes % sector_size) % sector_size) 0

-- the pointers of the write's children in the order of their numbers, zeros for none, then its own data, padded
-- Rule: write content.
abbrev pub content_of : List (Option Bp) → List ℕ → List ℕ
content_of pointers own = padded (flat_map member_bytes pointers ++ own)

-- ---- choices of the journal

-- a choice's places, none where it is refused
abbrev pub places_unless : Bool → Choice → Option (List Place)
places_unless true choice = None
places_unless false choice = Some choice.places

-- the places of the choice that was found, if it has all copies
abbrev pub places_chosen : ℕ → Option Choice → Option (List Place)
places_chosen copies None = None
places_chosen copies (Some choice) = places_unless (nat_lt (length choice.places) copies) choice

-- the places that the journal has for an ask, none where it found fewer than the copies or doesn't stand there
abbrev pub chosen : List Choice → Ask → Option (List Place)
chosen journal ask = places_chosen ask.copies (find (λ (c : Choice). same_ask c.asked ask) journal)

-- ---- placed writes

-- what all parts of one block's write share
pub record Writing : Type 0 where
  pub setting : Setting
  pub request : ℕ
  pub round : ℕ
  pub attempt : ℕ
  pub sum : SumKind
  pub copies : ℕ
  pub birth : ℕ

-- what the write of a part gives: an error or none, its pointer where it has a place, the headers under it, what it
-- asked for, and the images after
pub record Placed : Type 0 where
  pub error : Option Errno
  pub pointer : Option Bp
  pub heads : List Head
  pub asks : List Ask
  pub images : Images

-- an ask of this write, for a part at a path
abbrev pub ask_for : Writing → List ℕ → Role → ℕ → ℕ → Ask
ask_for w path role size copies = record {
  key = record { request = w.request; round = w.round; attempt = w.attempt; path = path; role = role };
  size = size;
  copies = copies;
}

-- the copies of the whole part
-- Rule: allocation.
abbrev pub body_ask : Writing → List ℕ → List ℕ → Ask
body_ask w path bytes = ask_for w path Body (length bytes) w.copies

-- how many copies there are at most
abbrev pub copies_max : ℕ
copies_max = 3

-- a header has one copy more than its members, up to that
-- Rule: gang fallback.
abbrev pub head_ask : Writing → List ℕ → Ask
head_ask w path = ask_for w path HeadRole sector_size (min (w.copies + 1) copies_max)

-- the pointer of bytes that lie at these places
abbrev pub pointer_to : Writing → List Place → Bool → List ℕ → Bp
pointer_to w places gang bytes = record {
  count = length places;
  places = filled_to no_place 3 places;
  gang = gang;
  size = length bytes;
  sum = w.sum;
  birth = w.birth;
  words = sum_of w.sum bytes;
}

-- a part without a place
abbrev pub without_place : List Ask → Images → Placed
without_place asks images = record { error = Some Nospc; pointer = None; heads = []; asks = asks; images = images }

-- a part with its copies at the places
abbrev pub body_placed : Writing → List ℕ → List ℕ → List Place → Written → Placed
body_placed w path bytes places written = record {
  error = written.error;
  pointer = Some (pointer_to w places false bytes);
  heads = [];
  asks = body_ask w path bytes ∷ [];
  images = written.images;
}

-- the parts of the bytes that have these sizes
abbrev pub cut : List ℕ → List ℕ → List (List ℕ)
cut [] bytes = []
cut (n ∷ ns) bytes = take n bytes ∷ cut ns (drop n bytes)

-- the members of a gang: their errors, pointers, headers and asks, and the images after
pub record Members : Type 0 where
  pub errors : List (Option Errno)
  pub pointers : List (Option Bp)
  pub heads : List Head
  pub asks : List Ask
  pub images : Images

-- a member in front of those behind it
abbrev pub add_member : Placed → Members → Members
add_member m others = record {
  errors = m.error ∷ others.errors;
  pointers = m.pointer ∷ others.pointers;
  heads = m.heads ++ others.heads;
  asks = m.asks ++ others.asks;
  images = others.images;
}

-- a member, and those behind it over the images that its write left
abbrev pub then_place : Placed → (Images → Members) → Members
then_place m others = add_member m (others m.images)

-- each part in order, at the paths of the members from n on
abbrev pub place_members : (List ℕ → List ℕ → Images → Placed) → List ℕ → ℕ → List (List ℕ) → Images → Members
place_members place path n [] images = record { errors = []; pointers = []; heads = []; asks = []; images = images }
place_members place path n (part ∷ parts) images =
    then_place (place (path ++ n ∷ []) part images) (place_members place path (n + 1) parts)

-- the header of the members, for the first place and the block's birth
-- Rule: gang header write.
abbrev pub gang_header : Writing → List Place → Members → List ℕ
gang_header w places m = header_of (filled_to None members_max m.pointers) (slice_index_or places 0 no_place) w.birth

-- a gang whose header was written: the worst error of members and header, and the gang's pointer
abbrev pub gang_placed : Writing → List ℕ → List ℕ → List Place → Members → List ℕ → Written → Placed
gang_placed w path bytes places m header written = record {
  error = worst_error (worst_of m.errors) written.error;
  pointer = Some (pointer_to w places true bytes);
  heads = record { path = path; bytes = header } ∷ m.heads;
  asks = body_ask w path bytes ∷ head_ask w path ∷ m.asks;
  images = written.images;
}

-- a gang whose header's bytes are known: they are written to its places
abbrev pub with_header : Writing → List ℕ → List ℕ → List Place → Members → List ℕ → Placed
with_header w path bytes places m header =
    gang_placed w path bytes places m header (write_piece w.setting header places m.images)

-- a gang whose members were placed: its header is written also where a member has no place
-- Rule: gang header write.
abbrev pub with_members : Writing → List ℕ → List ℕ → List Place → Members → Placed
with_members w path bytes places m = with_header w path bytes places m (gang_header w places m)

-- a gang whose header has found places, or not
abbrev pub gang_with : Option (List Place) → Writing → (List ℕ → List ℕ → Images → Placed) → List ℕ → List ℕ → Images → Placed
gang_with None w place path bytes images = without_place (body_ask w path bytes ∷ head_ask w path ∷ []) images
gang_with (Some places) w place path bytes images =
    with_members w path bytes places (place_members place path 0 (cut (split_sizes (length bytes)) bytes) images)

-- a part that is refused: one sector has no place, a larger part becomes a gang
abbrev pub gang_unless : Bool → List Choice → Writing → (List ℕ → List ℕ → Images → Placed) → List ℕ → List ℕ → Images → Placed
gang_unless true journal w place path bytes images = without_place (body_ask w path bytes ∷ []) images
gang_unless false journal w place path bytes images = gang_with (chosen journal (head_ask w path)) w place path bytes images

-- a part that has places, or that becomes a gang if it is larger than a sector
-- Rule: gang fallback.
abbrev pub body_with : Option (List Place) → List Choice → Writing → (List ℕ → List ℕ → Images → Placed) → List ℕ → List ℕ → Images → Placed
body_with (Some places) journal w place path bytes images =
    body_placed w path bytes places (write_piece w.setting bytes places images)
body_with None journal w place path bytes images =
    gang_unless (nat_le (length bytes) sector_size) journal w place path bytes images

-- The copies of the part are asked for. Where they are refused it becomes a gang of smaller parts, each placed in the
-- same way at its own path; as many levels may follow as the first argument says, which is more than any block needs.
unfoldable pub place_part : ℕ → List Choice → Writing → List ℕ → List ℕ → Images → Placed
place_part zero journal w path bytes images =
    body_with (chosen journal (body_ask w path bytes)) journal w (λ below part now. without_place [] now) path bytes images
place_part (suc levels) journal w path bytes images =
    body_with (chosen journal (body_ask w path bytes)) journal w (place_part levels journal w) path bytes images

-- the write of a whole block
-- Rule: gang fallback.
abbrev pub place_block : List Choice → Writing → List ℕ → Images → Placed
place_block journal w bytes images = place_part path_steps_max journal w [] bytes images

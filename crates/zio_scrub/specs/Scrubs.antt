-- What a scrub of blocks leaves, and what it counts.
use Rattle.std.specs.Prelude.{◌≡◌, ℕ, ◌+◌, List, [], ◌∷◌, length, map, false, Option, Some, None, Result, Ok, Err}
use Rattle.std.specs.List.{AllByRecursion, flat_map}
use Rattle.zio_types.specs.declared.error.Errno.{Errno}
use Rattle.zio_blkptr.specs.Pointers.{places_of}
use Rattle.zio_cksum.specs.Blocks.{Writes, in_turn, judged}
use Rattle.zio_cksum.specs.Frames.{spots_of}
use Rattle.zio_cksum.specs.Images.{Images, Setting, Spot, read_leaf, write_leaf}
use Rattle.zio_gang.specs.declared.tree.Tree.{Tree}
use Rattle.zio_gang.specs.Pieces.{Piece, pieces_of}
use Rattle.zio_trace.specs.Leaves.{Fetch, LiesOn}
use Rattle.zio_scrub.specs.declared.repairs.Repair.{Repair}

-- ---- the copies of a piece

-- where they lie: the leaves of its first place in their order, then those of the next
abbrev pub copies_of : Setting → Piece → List Spot
copies_of s piece = spots_of s (places_of piece.pointer)

-- what the first pass of a read gives of a copy; bytes that aren't good are a checksum error
abbrev pub copy_read : Setting → Images → Piece → Spot → Result (List ℕ) Errno
copy_read s images piece spot = judged piece.good (read_leaf s false images piece.size spot)

-- the bytes of the first that is good
abbrev pub first_found : List (Result (List ℕ) Errno) → Option (List ℕ)
first_found [] = None
first_found (Ok bytes ∷ reads) = Some bytes
first_found (Err e ∷ reads) = first_found reads

abbrev pub bad_if : Result (List ℕ) Errno → Spot → List Spot → List Spot
bad_if (Ok bytes) spot others = others
bad_if (Err e) spot others = spot ∷ others

-- those that aren't good
abbrev pub bad_among : (Spot → Result (List ℕ) Errno) → List Spot → List Spot
bad_among read [] = []
bad_among read (spot ∷ spots) = bad_if (read spot) spot (bad_among read spots)

-- ---- repairs

abbrev pub repairs_with : Option (List ℕ) → List Spot → List Repair
repairs_with None bad = []
repairs_with (Some bytes) bad = map (λ (spot : Spot). record { spot = spot; bytes = bytes }) bad

-- If a copy is good, each copy that isn't is written with the bytes of the first good one.
-- Rule: scrub.
abbrev pub repairs_of : Setting → Images → Piece → List Repair
repairs_of s images piece =
    repairs_with (first_found (map (copy_read s images piece) (copies_of s piece)))
    (bad_among (copy_read s images piece) (copies_of s piece))

abbrev pub lost_with : Option (List ℕ) → ℕ → ℕ
lost_with None copies = copies
lost_with (Some bytes) copies = 0

-- If none is good, all copies of the piece are lost.
-- Rule: scrub.
abbrev pub lost_of : Setting → Images → Piece → ℕ
lost_of s images piece =
    lost_with (first_found (map (copy_read s images piece) (copies_of s piece))) (length (copies_of s piece))

-- one after another
-- Rule: scrub.
abbrev pub mend : Setting → List Repair → Images → Writes
mend s rs images = in_turn (λ (now : Images) (r : Repair). write_leaf s false r.bytes now r.spot) rs images

-- the error of each write, which doesn't depend on the images
abbrev pub error_of : Setting → Repair → Option Errno
error_of s r = (write_leaf s false r.bytes [] r.spot).error

abbrev pub total : {X : Type 0} → (X → ℕ) → List X → ℕ
total f [] = 0
total f (x ∷ xs) = f x + total f xs

-- a copy is repaired if its write has no error, else it failed
abbrev pub one_written : Option Errno → ℕ
one_written None = 1
one_written (Some e) = 0

abbrev pub one_failed : Option Errno → ℕ
one_failed None = 0
one_failed (Some e) = 1

abbrev pub repaired_in : List (Option Errno) → ℕ
repaired_in errors = total one_written errors

abbrev pub failed_in : List (Option Errno) → ℕ
failed_in errors = total one_failed errors

-- ---- pieces one after another

-- the images after, and how many copies there are, were repaired, failed and are lost
pub record Scrubbed : Type 0 where
  pub images : Images
  pub copies : ℕ
  pub repaired : ℕ
  pub failed : ℕ
  pub lost : ℕ

abbrev pub scrubbed_with : Writes → ℕ → ℕ → Scrubbed
scrubbed_with w copies lost = record {
  images = w.images;
  copies = copies;
  repaired = repaired_in w.errors;
  failed = failed_in w.errors;
  lost = lost;
}

abbrev pub scrub_piece : Setting → Piece → Images → Scrubbed
scrub_piece s piece images =
    scrubbed_with (mend s (repairs_of s images piece) images) (length (copies_of s piece)) (lost_of s images piece)

abbrev pub add_scrubbed : Scrubbed → Scrubbed → Scrubbed
add_scrubbed one others = record {
  images = others.images;
  copies = one.copies + others.copies;
  repaired = one.repaired + others.repaired;
  failed = one.failed + others.failed;
  lost = one.lost + others.lost;
}

-- a piece, and those behind it over the images that its repairs left
abbrev pub then_scrub : Scrubbed → (Images → Scrubbed) → Scrubbed
then_scrub one others = add_scrubbed one (others one.images)

abbrev pub scrub_pieces : Setting → List Piece → Images → Scrubbed
scrub_pieces s [] images = record { images = images; copies = 0; repaired = 0; failed = 0; lost = 0 }
scrub_pieces s (piece ∷ pieces) images = then_scrub (scrub_piece s piece images) (scrub_pieces s pieces)

-- of each block its headers, from the root down in order of paths, then its members in order, or its one pointer
abbrev pub pieces_in : List Tree → List Piece
pieces_in trees = flat_map pieces_of trees

-- The blocks in their order, piece after piece: each copy is read, and what can be repaired is.
-- Rule: scrub.
unfoldable pub scrub_blocks : Setting → List Tree → Images → Scrubbed
scrub_blocks s trees images = scrub_pieces s (pieces_in trees) images

-- what all the pieces ask for over the same images
abbrev pub all_repairs : Setting → Images → List Piece → List Repair
all_repairs s images pieces = flat_map (repairs_of s images) pieces

abbrev pub all_lost : Setting → Images → List Piece → ℕ
all_lost s images pieces = total (lost_of s images) pieces

-- where all their copies lie
abbrev pub spots_in : Setting → List Tree → List Spot
spots_in s trees = flat_map (copies_of s) (pieces_in trees)

-- each copy has room for its piece's bytes, and lies on leaves of these sizes
abbrev pub PieceLies : (ℕ → ℕ) → Setting → Piece → Type 0
PieceLies sizes s p = AllByRecursion (λ (u : Spot). LiesOn sizes (Fetch false p.size u)) (copies_of s p)

-- the pieces in turn come to the repairs that the images before ask for, one after another
pub record ScrubIs (s : Setting) (images : Images) (ps : List Piece) : Type 0 where
  pub images_are : (scrub_pieces s ps images).images ≡ (mend s (all_repairs s images ps) images).images
  pub copies_are : (scrub_pieces s ps images).copies ≡ length (flat_map (copies_of s) ps)
  pub repaired_are : (scrub_pieces s ps images).repaired ≡ repaired_in (map (error_of s) (all_repairs s images ps))
  pub failed_are : (scrub_pieces s ps images).failed ≡ failed_in (map (error_of s) (all_repairs s images ps))
  pub lost_are : (scrub_pieces s ps images).lost ≡ all_lost s images ps

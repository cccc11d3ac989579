-- The pieces of blocks as the code holds them, and blocks that can be scrubbed.
use Rattle.std.specs.Prelude.{◌≡◌, ℕ, ◌<◌, ◌≤◌, ◌^◌, List, length, map, Bool, true, false, Option, option_copied}
use Rattle.std.specs.List.{AllByRecursion, flat_map}
use Rattle.zio_types.specs.declared.place.Top.{Top}
use Rattle.zio_types.specs.Places.{are_apart, sector_size}
use Rattle.zio_blkptr.specs.declared.pointer.Bp.{Bp}
use Rattle.zio_cksum.specs.Blocks.{good_kept}
use Rattle.zio_cksum.specs.Images.{Setting}
use Rattle.zio_gang.specs.declared.bound.Bound.{Bound}
use Rattle.zio_gang.specs.declared.tree.Tree.{Tree}
use Rattle.zio_gang.specs.Pieces.{Piece as Seen, body_piece}
use Rattle.zio_gang.specs.Trees.{sizes_of, tree_places}
use Rattle.zio_trace.specs.Separate.{LeavesOnce}
use Rattle.zio_trace.specs.SoundRounds.{LeavesDiffer}
use Rattle.zio_disks.specs.Trees.{BearsTops, IsPlacedTree}
use Rattle.zio_scrub.specs.declared.pieces.Piece.{Piece}
use Rattle.zio_scrub.specs.Scrubs.{spots_in}

-- the header of a gang, or the bytes of a pointer that is none
abbrev pub seen_if : Bool → Bp → Option (List ℕ) → Seen
seen_if true bp kept = record { pointer = bp; size = sector_size; good = good_kept kept }
seen_if false bp kept = body_piece bp

abbrev pub seen : Piece → Seen
seen piece = seen_if piece.pointer.gang piece.pointer (option_copied piece.kept)

abbrev pub all_seen : List Piece → List Seen
all_seen pieces = map seen pieces

abbrev pub trees_of : List Bound → List Tree
trees_of bound = map (λ (b : Bound). b.tree) bound

-- the tops have leaves, and a device queue can take all of them
pub record IsScrubTop (top : Top) : Type 0 where
  pub some : 0 < length top.leaves
  pub short : top.sectors ≤ 2 ^ 39

-- Blocks can be scrubbed over this setting and disks of these sizes in bytes: the disks bear the tops, no leaf stands twice;
-- the places of the blocks are inside and no two of them meet; and there are fewer than 2^32 copies.
pub record CanScrub (s : Setting) (bytes : List ℕ) (trees : List Tree) : Type 0 where
  pub bears : BearsTops s bytes
  pub tops : AllByRecursion IsScrubTop s.tops
  pub leaves_once : LeavesOnce s.tops
  pub leaves_differ : LeavesDiffer s.tops
  pub placed : AllByRecursion (IsPlacedTree (sizes_of s.tops)) trees
  pub apart : are_apart (flat_map tree_places trees) ≡ true
  pub few : length (spots_in s trees) < 2 ^ 32

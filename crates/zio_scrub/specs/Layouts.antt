-- The copies of pieces, numbered, and which copies can be read.
use Rattle.std.specs.Prelude.{◌≡◌, ℕ, ◌+◌, ◌<◌, ◌≤◌, ◌^◌, List, [], ◌∷◌, ◌++◌, length, map, slice_index_or, IsTrue}
use Rattle.std.specs.List.{AllByRecursion, flat_map}
use Rattle.zio_blkptr.specs.Pointers.{places_of, valid}
use Rattle.zio_cksum.specs.Images.{Setting, Spot}
use Rattle.zio_scrub.specs.declared.layout.CopyAt.{CopyAt}
use Rattle.zio_scrub.specs.declared.layout.Layout.{Layout}
use Rattle.zio_scrub.specs.declared.layout.Numbered.{Numbered}
use Rattle.zio_scrub.specs.declared.pieces.Piece.{Piece}
use Rattle.zio_scrub.specs.Pieces.{all_seen, seen}
use Rattle.zio_scrub.specs.Scrubs.{copies_of}

-- a copy lies on the disk of its leaf, where the disks have these sizes; it has room for so many bytes, and a queue can take it
pub record IsCopyOn (sizes : List ℕ) (size : ℕ) (spot : Spot) : Type 0 where
  pub some : 0 < spot.span
  pub room : size ≤ spot.span
  pub small : spot.span < 2 ^ 32
  pub device : spot.at + spot.span ≤ 2 ^ 48
  pub lies : spot.at + spot.span ≤ slice_index_or sizes spot.leaf 0

abbrev pub spots_at : Setting → Piece → List Spot
spots_at s piece = copies_of s (seen piece)

-- a queue of one of so many leaves can take it
pub record FitsQueue (leaves : ℕ) (spot : Spot) : Type 0 where
  pub there : spot.leaf < leaves
  pub small : spot.span < 2 ^ 32
  pub device : spot.at + spot.span ≤ 2 ^ 48

abbrev pub LiesOnDisks : List ℕ → Spot → Type 0
LiesOnDisks sizes spot = spot.at + spot.span ≤ slice_index_or sizes spot.leaf 0

-- its pointer is valid, and its copies lie on the disks
pub record IsReadable (s : Setting) (sizes : List ℕ) (piece : Piece) : Type 0 where
  pub ok : IsTrue (valid piece.pointer)
  pub spots : AllByRecursion (IsCopyOn sizes (seen piece).size) (spots_at s piece)

-- its pointer has a place
abbrev pub HasPlace : Piece → Type 0
HasPlace piece = 1 ≤ length (places_of piece.pointer)

abbrev pub copies_of_all : Setting → List Piece → List Spot
copies_of_all s pieces = flat_map (copies_of s) (all_seen pieces)

-- ---- numbers

-- pieces in order, where the first has this number
abbrev pub copies_from : Setting → ℕ → List Piece → List CopyAt
copies_from s n [] = []
copies_from s n (p ∷ ps) = map (λ (spot : Spot). record { spot = spot; piece = n }) (spots_at s p) ++ copies_from s (n + 1) ps

-- pieces in order, where the first's first copy has this number
abbrev pub numbered_from : Setting → ℕ → List Piece → List Numbered
numbered_from s first [] = []
numbered_from s first (p ∷ ps) =
    record { piece = p; first = first; count = length (spots_at s p) } ∷ numbered_from s (first + length (spots_at s p)) ps

-- all pieces with all their copies
pub record IsLayoutOf (s : Setting) (pieces : List Piece) (layout : Layout) : Type 0 where
  pub pieces_are : layout.pieces ≡ numbered_from s 0 pieces
  pub copies_are : layout.copies ≡ copies_from s 0 pieces

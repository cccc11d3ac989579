-- The pieces of a block: what its copies hold, one by one.
use Rattle.std.specs.Prelude.{ℕ, zero, suc, ◌+◌, List, [], ◌∷◌, ◌++◌, map, Bool, true, false, Option, Some, None}
use Rattle.zio_types.specs.Places.{sector_size}
use Rattle.zio_blkptr.specs.declared.pointer.Bp.{Bp}
use Rattle.zio_cksum.specs.Blocks.{good_body, good_kept}
use Rattle.zio_cksum.specs.Headers.{members_of}
use Rattle.zio_gang.specs.declared.tree.Head.{Head}
use Rattle.zio_gang.specs.declared.tree.Tree.{Tree}
use Rattle.zio_gang.specs.Trees.{header_levels_max, kept_at}

-- a header or a body: the pointer that says where its copies are, how many bytes are read of each, and which bytes are good
pub record Piece : Type 0 where
  pub pointer : Bp
  pub size : ℕ
  pub good : List ℕ → Bool

-- the header of a gang at this path, good where it equals the kept one
abbrev pub head_piece : List Head → List ℕ → Bp → Piece
head_piece heads path bp = record { pointer = bp; size = sector_size; good = good_kept (kept_at heads path) }

-- the bytes of a pointer that is no gang, good where they have its sum
abbrev pub body_piece : Bp → Piece
body_piece bp = record { pointer = bp; size = bp.size; good = good_body bp }

-- the headers and the bodies under a pointer
pub record Parts : Type 0 where
  pub heads : List Piece
  pub bodies : List Piece

-- nothing under a pointer
abbrev pub no_parts : Parts
no_parts = record { heads = []; bodies = [] }

-- the parts of one pointer before those of another
abbrev pub joined_parts : Parts → Parts → Parts
joined_parts a b = record { heads = a.heads ++ b.heads; bodies = a.bodies ++ b.bodies }

-- the members of a header that is kept
abbrev pub members_kept : Option (List ℕ) → List Bp
members_kept None = []
members_kept (Some bytes) = members_of bytes

-- the parts of members in order, numbered from n
abbrev pub parts_of_members : (List ℕ → Bp → Parts) → List ℕ → ℕ → List Bp → Parts
parts_of_members parts path n [] = no_parts
parts_of_members parts path n (m ∷ ms) = joined_parts (parts (path ++ n ∷ []) m) (parts_of_members parts path (n + 1) ms)

-- the parts below a header, with that header in front
abbrev pub below_piece : Piece → Parts → Parts
below_piece head parts = record { heads = head ∷ parts.heads; bodies = parts.bodies }

-- a gang's parts, or the body of a pointer that is no gang
abbrev pub parts_if : Bool → Bp → Parts → Parts
parts_if true bp gang = gang
parts_if false bp gang = record { heads = []; bodies = body_piece bp ∷ [] }

-- From a pointer at a path down, over the kept headers. As many levels of headers may follow as the first argument says.
unfoldable pub parts_from : ℕ → List Head → List ℕ → Bp → Parts
parts_from zero heads path bp = parts_if bp.gang bp no_parts
parts_from (suc levels) heads path bp =
    parts_if bp.gang bp
    (below_piece (head_piece heads path bp)
    (parts_of_members (parts_from levels heads) path 0 (members_kept (kept_at heads path))))

-- the headers and the bodies of a block
abbrev pub parts_of : Tree → Parts
parts_of tree = parts_from header_levels_max tree.heads [] tree.bp

-- the pieces of a block: its headers, each before those below it and members in order, and then its bodies in order
abbrev pub pieces_of : Tree → List Piece
pieces_of tree = (parts_of tree).heads ++ (parts_of tree).bodies

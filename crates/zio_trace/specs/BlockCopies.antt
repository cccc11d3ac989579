-- The pieces of a block as they are read: where the copies of each lie, how many bytes are read, and which are good.
use Rattle.std.specs.Prelude.{ℕ, zero, suc, ◌+◌, List, [], ◌∷◌, ◌++◌, Bool, true, false}
use Rattle.zio_types.specs.declared.place.Place.{Place}
use Rattle.zio_types.specs.Places.{sector_size}
use Rattle.zio_blkptr.specs.declared.pointer.Bp.{Bp}
use Rattle.zio_blkptr.specs.Pointers.{places_of}
use Rattle.zio_gang.specs.declared.tree.Head.{Head}
use Rattle.zio_gang.specs.declared.tree.Tree.{Tree}
use Rattle.zio_gang.specs.Pieces.{members_kept}
use Rattle.zio_gang.specs.Trees.{header_levels_max, kept_at}
use Rattle.zio_trace.specs.Tasks.{BodyOf, KeptAs, ReadCopies, Task, Test}

-- the copies of a piece
pub record Copies : Type 0 where
  pub test : Test
  pub len : ℕ
  pub places : List Place

-- the read of them, with repairs
abbrev pub reading_of : Copies → Task
reading_of c = ReadCopies true c.test c.len c.places

-- a header at this path, good where it equals the kept one
abbrev pub head_copies : List Head → List ℕ → Bp → Copies
head_copies heads path bp = record { test = KeptAs (kept_at heads path); len = sector_size; places = places_of bp }

-- the bytes of a pointer that is no gang, good where they have its sum
abbrev pub body_copies : Bp → Copies
body_copies bp = record { test = BodyOf bp; len = bp.size; places = places_of bp }

-- the headers and the bodies under a pointer
pub record Groups : Type 0 where
  pub heads : List Copies
  pub bodies : List Copies

abbrev pub no_groups : Groups
no_groups = record { heads = []; bodies = [] }

abbrev pub joined_groups : Groups → Groups → Groups
joined_groups a b = record { heads = a.heads ++ b.heads; bodies = a.bodies ++ b.bodies }

-- the groups of members in order, numbered from n
abbrev pub groups_of_members : (List ℕ → Bp → Groups) → List ℕ → ℕ → List Bp → Groups
groups_of_members groups path n [] = no_groups
groups_of_members groups path n (m ∷ ms) = joined_groups (groups (path ++ n ∷ []) m) (groups_of_members groups path (n + 1) ms)

-- what is below a header, with that header in front
abbrev pub below_copies : Copies → Groups → Groups
below_copies head groups = record { heads = head ∷ groups.heads; bodies = groups.bodies }

-- a gang's, or the body of a pointer that is no gang
abbrev pub groups_if : Bool → Bp → Groups → Groups
groups_if true bp gang = gang
groups_if false bp gang = record { heads = []; bodies = body_copies bp ∷ [] }

-- from a pointer at a path down, over the kept headers
unfoldable pub copies_from : ℕ → List Head → List ℕ → Bp → Groups
copies_from zero heads path bp = groups_if bp.gang bp no_groups
copies_from (suc levels) heads path bp =
    groups_if bp.gang bp
    (below_copies (head_copies heads path bp)
    (groups_of_members (copies_from levels heads) path 0 (members_kept (kept_at heads path))))

abbrev pub groups_of : Tree → Groups
groups_of tree = copies_from header_levels_max tree.heads [] tree.bp

-- the pieces of a block: its headers, each before those below it and members in order, and then its bodies in order
abbrev pub copies_of : Tree → List Copies
copies_of tree = (groups_of tree).heads ++ (groups_of tree).bodies

-- What a script leaves of its pool: the blocks that are bound.
use Rattle.std.specs.Prelude.{◌≡◌, ℕ, List, map, true, IsTrue, bytes_eq}
use Rattle.std.specs.List.{AllByRecursion, IsDistinct, flat_map}
use Rattle.std.specs.List.Sorted.{IsNonDecreasingBy}
use Rattle.zio_types.specs.declared.place.Place.{Place}
use Rattle.zio_types.specs.declared.place.TopSize.{TopSize}
use Rattle.zio_types.specs.Places.{are_apart, is_inside}
use Rattle.zio_gang.specs.declared.bound.Bound.{Bound}
use Rattle.zio_gang.specs.declared.tree.Tree.{Tree}
use Rattle.zio_gang.specs.Rounds.{block_of}
use Rattle.zio_gang.specs.Runs.{State}
use Rattle.zio_gang.specs.Trees.{tree_places}
use Rattle.zio_course.specs.Names.{byte_order, named_in, pairs_of}

-- the blocks without their names
abbrev pub trees_of : List Bound → List Tree
trees_of blocks = map (λ (b : Bound). b.tree) blocks

-- their places, one block after another
abbrev pub places_of : List Bound → List Place
places_of blocks = flat_map tree_places (trees_of blocks)

-- Blocks by their names, each name once, in the order of the names' bytes: each is such a block, all places lie inside the
-- tops, and no two of them meet.
pub record AreBlocks (fits : Tree → Type 0) (tops : List TopSize) (blocks : List Bound) : Type 0 where
  pub once : IsDistinct bytes_eq (map (λ (b : Bound). b.name) blocks)
  pub order : IsNonDecreasingBy (λ (e : List ℕ × Tree). byte_order e.0) (pairs_of blocks)
  pub fit : AllByRecursion fits (trees_of blocks)
  pub inside : AllByRecursion (λ (p : Place). IsTrue (is_inside tops p)) (places_of blocks)
  pub apart : are_apart (places_of blocks) ≡ true

-- they are those that are bound in this state, which has this resume point
pub record AreBoundIn (state : State) (point : ℕ) (blocks : List Bound) : Type 0 where
  pub names : (name : List ℕ) → named_in (pairs_of blocks) name ≡ block_of state.bound name
  pub point_is : point ≡ state.point

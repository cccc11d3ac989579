-- What a run's pool is, and the blocks that a run leaves bound in it.
use Rattle.std.specs.Prelude.{◌≡◌, ℕ, ◌≤◌, ◌^◌, List, length, true, IsTrue}
use Rattle.std.specs.List.{AllByRecursion, flat_map}
use Rattle.zio_types.specs.declared.place.Place.{Place}
use Rattle.zio_types.specs.declared.place.Top.{Top}
use Rattle.zio_types.specs.Places.{are_apart, is_inside}
use Rattle.zio_blkptr.specs.Pointers.{valid}
use Rattle.zio_cksum.specs.Images.{Setting}
use Rattle.zio_gang.specs.declared.tree.Tree.{Tree}
use Rattle.zio_gang.specs.Trees.{sizes_of, tree_places}
use Rattle.zio_trace.specs.Separate.{LeavesOnce}
use Rattle.zio_trace.specs.SoundRounds.{LeavesDiffer}
use Rattle.zio_disks.specs.Trees.{BearsTops}

-- the top has one to four leaves
pub record HasLeaves (top : Top) : Type 0 where
  pub some : 1 ≤ length top.leaves
  pub few : length top.leaves ≤ 4

-- The disks, of these sizes in bytes, bear the setting's tops, of which there are at most eight. No leaf stands twice, and no
-- disk has more than 256 MiB.
pub record IsPool (s : Setting) (sizes : List ℕ) : Type 0 where
  pub bears : BearsTops s sizes
  pub few : length s.tops ≤ 8
  pub leaves : AllByRecursion HasLeaves s.tops
  pub leaves_once : LeavesOnce s.tops
  pub leaves_differ : LeavesDiffer s.tops
  pub small : AllByRecursion (λ (size : ℕ). size ≤ 2 ^ 28) sizes

-- the blocks' pointers are valid, their places lie inside the tops, and no two of them meet
pub record AreBlocksIn (s : Setting) (trees : List Tree) : Type 0 where
  pub valid : AllByRecursion (λ (tree : Tree). IsTrue (valid tree.bp)) trees
  pub inside : AllByRecursion (λ (p : Place). IsTrue (is_inside (sizes_of s.tops) p)) (flat_map tree_places trees)
  pub apart : are_apart (flat_map tree_places trees) ≡ true

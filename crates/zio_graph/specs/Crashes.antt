-- Where a round may write, and which copies it spares, so that they survive a crash at any moment.
use Rattle.std.specs.Prelude.{◌≡◌, ℕ, ◌+◌, ◌*◌, ◌<◌, ◌≤◌, List, Some, Contains, IsTrue, slice_get, ◌⊎◌}
use Rattle.zio_types.specs.declared.place.Place.{Place}
use Rattle.zio_types.specs.declared.place.Top.{Top}
use Rattle.zio_types.specs.Places.{is_free, is_inside, sector_size}
use Rattle.zio_outside.specs.declared.written.Written.{Written}
use Rattle.zio_cksum.specs.Blocks.{leaves_of_top}
use Rattle.zio_cksum.specs.Frames.{spots_of}
use Rattle.zio_cksum.specs.Images.{Images, Setting, Spot}
use Rattle.zio_gang.specs.declared.tree.Tree.{Tree}
use Rattle.zio_gang.specs.Attempts.{Pending}
use Rattle.zio_gang.specs.Trees.{sizes_of, tree_places}
use Rattle.zio_disks.specs.Disks.{Tell}
use Rattle.zio_trace.specs.BlockCopies.{Copies, copies_of}
use Rattle.zio_trace.specs.Separate.{IsSoundBlock, NoneMeet}
use Rattle.zio_spared.specs.Spared.{HasGood, IsGoodIn, NoFlips}
use Rattle.zio_course.specs.Runners.{Standing, joined_trees, named_places}
use Rattle.zio_turns.specs.Wrote.{Wrote}

-- ---- where it may write

-- a byte of a place inside its top that is named, or meets none in use
pub record IsOpen (tops : List Top) (live named : List Place) (leaf at : ℕ) : Type 0 where
  pub place : Place
  pub inside : IsTrue (is_inside (sizes_of tops) place)
  pub may : Contains named place ⊎ IsTrue (is_free live place)
  pub mirrored : Contains (leaves_of_top (slice_get tops place.top)) leaf
  pub from : place.sector * sector_size ≤ at
  pub below : at < place.sector * sector_size + place.sectors * sector_size

-- a round of these trees may write the byte
abbrev pub MayWrite : Standing → List (List Pending) → ℕ → ℕ → Type 0
MayWrite s trees leaf at = IsOpen s.tops s.live (named_places trees) leaf at

-- ---- what it spares

-- one of the trees' requests names the block
pub record IsNamedBy (trees : List (List Pending)) (tree : Tree) : Type 0 where
  pub request : Pending
  pub listed : Contains (joined_trees trees) request
  pub is : request.block ≡ Some tree

-- a block that the trees' requests name, or one in use whose places meet none of those
abbrev pub IsInUse : Standing → List (List Pending) → Tree → Type 0
IsInUse s trees tree =
    IsNamedBy trees tree ⊎ (IsSoundBlock (sizes_of s.tops) s.live tree × NoneMeet (tree_places tree) (named_places trees))

-- a byte that isn't one of so many from the spot's start on
abbrev pub IsOutside : Spot → ℕ → ℕ → ℕ → Type 0
IsOutside spot len leaf at = leaf ≡ spot.leaf → spot.at ≤ at → ¬ (at < spot.at + len)

-- a copy of the piece that is good in the images, and none of whose bytes was written
pub record Spares {D : Type 0} (went : List Written → D → D → Type 0) (s : Setting) (before : Images) (c : Copies) (old new : List D)
    : Type 0 where
  pub spot : Spot
  pub listed : Contains (spots_of s c.places) spot
  pub good : IsGoodIn before c spot
  pub unwritten : Wrote {D = D} went (IsOutside spot c.len) old new

-- a runner's tops and rows, in whatever round
abbrev pub setting_of : Standing → Setting
setting_of s = record { tops = s.tops; rows = s.rows; point = 0 }

-- of each piece of a block in use that had a good copy in the images a good copy is spared, where no row turns bytes
abbrev pub SparesAll : {D : Type 0} → (D → List ℕ → Type 0) → (List Written → D → D → Type 0) → Standing → List (List Pending) → List D
    → List D → Type 0
SparesAll {D = D} image went s trees old new = (before : Images) → Tell {D = D} image old before → NoFlips s.rows →
    (tree : Tree) (c : Copies) → IsInUse s trees tree → Contains (copies_of tree) c → HasGood (setting_of s) before c →
    Spares {D = D} went (setting_of s) before c old new

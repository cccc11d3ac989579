-- What a placed write stands on: the tops of a pool, the size of a block, and a journal that finds a place for whatever
-- fits one sector.
use Rattle.std.specs.Prelude.{◌≡◌, ℕ, ◌%◌, ◌^◌, ◌<◌, ◌≤◌, List, length, false, IsTrue}
use Rattle.std.specs.List.{AllByRecursion}
use Rattle.zio_types.specs.declared.place.Top.{Top}
use Rattle.zio_types.specs.Choices.{Choice, is_refused}
use Rattle.zio_types.specs.Places.{is_lawful_top, sector_size}
use Rattle.zio_blkptr.specs.declared.pointer.TheConstants.{BLOCK_SIZE_MAX, SECTOR_END, TOP_END}
use Rattle.zio_gang.specs.Attempts.{Pending}
use Rattle.zio_gang.specs.Trees.{size_of}
use Rattle.zio_trace.specs.Separate.{LeavesHold, LeavesOnce}
use Rattle.zio_trace.specs.SoundRounds.{LeavesDiffer}

-- The tops of a pool over leaves of these sizes: each has a leaf, no leaf stands twice, each has its top's sectors, and
-- every place on them can stand in a pointer.
pub record IsPool (sizes : ℕ → ℕ) (tops : List Top) : Type 0 where
  pub once : LeavesOnce tops
  pub twice : LeavesDiffer tops
  pub hold : LeavesHold sizes tops
  pub few : length tops ≤ TOP_END
  pub lawful : AllByRecursion (λ (top : Top). IsTrue (is_lawful_top (size_of top))) tops
  pub short : AllByRecursion (λ (top : Top). top.sectors ≤ SECTOR_END) tops
  pub mirrored : AllByRecursion (λ (top : Top). 1 ≤ length top.leaves) tops

-- how many bytes a block has: whole sectors, one at least, and no more than the largest
pub record IsBlockSize (n : ℕ) : Type 0 where
  pub some : 0 < n
  pub whole : n % sector_size ≡ 0
  pub most : n ≤ BLOCK_SIZE_MAX

-- a write of one to three copies, whose batch has a number that a pointer can hold
pub record IsWriting (p : Pending) (copies : ℕ) : Type 0 where
  pub one : 1 ≤ copies
  pub three : copies ≤ 3
  pub some : 1 ≤ p.birth
  pub born : p.birth < 2 ^ 64

-- no choice for a single sector, which can't become a gang, is refused
abbrev pub NoSmallRefused : List Choice → Type 0
NoSmallRefused journal =
    AllByRecursion (λ (c : Choice). c.asked.size ≡ sector_size → is_refused c ≡ false) journal

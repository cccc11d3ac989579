-- What a scrub answers, and which copies are good after it.
use Rattle.std.specs.Prelude.{◌≡◌, ◌≤◌, ◌<◌, ◌⊎◌, List, length, map, IsOk, IsSome}
use Rattle.std.specs.List.{AllByRecursion}
use Rattle.zio_faults.specs.declared.table.Row.{Row}
use Rattle.zio_cksum.specs.Images.{Images, Setting, Spot}
use Rattle.zio_gang.specs.declared.tree.Tree.{Tree}
use Rattle.zio_gang.specs.Pieces.{Piece}
use Rattle.zio_scrub.specs.declared.ending.ScrubEnd.{ScrubEnd}
use Rattle.zio_scrub.specs.Scrubs.{Scrubbed, copies_of, copy_read, first_found, pieces_in}

-- the numbers are those of the blocks and of what the definition comes to
pub record Counts (end : ScrubEnd) (trees : List Tree) (scrubbed : Scrubbed) : Type 0 where
  pub blocks : end.blocks ≡ length trees
  pub copies : end.copies ≡ scrubbed.copies
  pub repaired : end.repaired ≡ scrubbed.repaired
  pub failed : end.failed ≡ scrubbed.failed
  pub lost : end.lost ≡ scrubbed.lost

-- no row of the fault table holds at the resume point
abbrev pub NoRowHolds : Setting → Type 0
NoRowHolds s = AllByRecursion (λ (row : Row). (s.point < row.from) ⊎ (row.until ≤ s.point)) s.rows

-- a copy is good
abbrev pub IsGoodCopy : Setting → Images → Piece → Spot → Type 0
IsGoodCopy s images piece spot = IsOk (copy_read s images piece spot)

-- if a copy was good before, all are afterwards
abbrev pub IsMended : Setting → Images → Images → Piece → Type 0
IsMended s before after piece =
    IsSome (first_found (map (copy_read s before piece) (copies_of s piece))) → AllByRecursion (IsGoodCopy s after piece) (copies_of s piece)

-- so it is with each piece of the blocks
abbrev pub AreMended : Setting → List Tree → Images → Images → Type 0
AreMended s trees before after = AllByRecursion (IsMended s before after) (pieces_in trees)

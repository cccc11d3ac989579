use Rattle.std.proofs.Common.{◌≡◌, take}
use Rattle.zio_scrub.specs.Pieces.{all_seen, trees_of}
use Rattle.zio_scrub.specs.Scrubs.{pieces_in}
use Rattle.zio_scrub.proofs.blocks.all_pieces.Given as goal

-- those of the blocks so far
abbrev pub invariant-loop-block : goal.invariant-loop-block
invariant-loop-block l = all_seen l.pieces ≡ pieces_in (trees_of (take l.block-index l.bound))

use Rattle.std.proofs.Common.{◌≡◌, take}
use Rattle.std.specs.List.{AllByRecursion}
use Rattle.zio_scrub.specs.Layouts.{HasPlace, copies_from, numbered_from}
use Rattle.zio_scrub.proofs.layout.lay_out.Given as goal

abbrev pub invariant-loop-piece : goal.invariant-loop-piece
invariant-loop-piece l = record {
  numbered_are : l.numbered ≡ numbered_from l.setting 0 (take l.piece-index l.pieces);
  copies_are : l.copies ≡ copies_from l.setting 0 (take l.piece-index l.pieces);
  some : AllByRecursion HasPlace (take l.piece-index l.pieces);
}

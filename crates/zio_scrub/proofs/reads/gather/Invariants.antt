use Rattle.std.proofs.Common.{◌≡◌, ◌≤◌, List, length, take, drop}
use Rattle.std.specs.List.{AllByRecursion}
use Rattle.zio_cksum.specs.Images.{Images, Setting}
use Rattle.zio_scrub.specs.declared.layout.Numbered.{Numbered}
use Rattle.zio_scrub.specs.declared.pieces.Piece.{Piece}
use Rattle.zio_scrub.specs.Layouts.{IsLayoutOf}
use Rattle.zio_scrub.specs.Pieces.{all_seen}
use Rattle.zio_scrub.specs.Reads.{IsAt, IsFrom, IsTrueOf}
use Rattle.zio_scrub.specs.Scrubs.{all_lost, all_repairs}
use Rattle.zio_scrub.proofs.reads.gather.Given as goal

abbrev pub invariant-loop-source : goal.invariant-loop-source
invariant-loop-source l = record {
  rest : l.source-iterator ≡ drop l.number l.fn.heard.sources.items;
  within : l.number ≤ length l.fn.heard.sources.items;
  copies : l.reading.copies ≡ length l.layout.copies;
  told : (s : Setting) (images : Images) (pieces : List Piece) → IsLayoutOf s pieces l.layout → IsTrueOf s images l.layout l.fn.heard →
      (l.reading.repairs ≡ all_repairs s images (all_seen (take l.number pieces)))
      × (l.reading.lost ≡ all_lost s images (all_seen (take l.number pieces)));
  room : (n : Numbered) → IsAt l.layout.pieces l.number n → l.reading.lost ≤ n.first;
  few : (n : Numbered) → IsAt l.layout.pieces l.number n → length l.reading.repairs ≤ n.first;
  most : length l.reading.repairs ≤ length l.layout.copies;
  from : AllByRecursion (IsFrom l.layout) l.reading.repairs;
}

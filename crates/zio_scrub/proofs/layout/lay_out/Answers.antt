use Rattle.zio_scrub.proofs.LayoutLemmas.{next_copies, next_numbered, next_some}
use Rattle.zio_scrub.proofs.layout.lay_out.Goals as goal

pub loop-piece-preserved : goal.loop-piece-preserved
loop-piece-preserved c = record {
  numbered_are = next_numbered c.args.setting.now c.args.pieces.now c.loop-piece.piece-index _ c.loop-piece.numbered c.add_piece.new.numbered
      c.loop-piece.copies c.loop-piece-test.true c.loop-piece.invariant.numbered_are c.loop-piece.invariant.copies_are
      c.in_ok-add_piece.ensures.numbered;
  copies_are = next_copies c.args.setting.now c.args.pieces.now c.loop-piece.piece-index _ c.loop-piece.numbered c.loop-piece.copies c.add_piece.new.copies
      c.loop-piece-test.true c.loop-piece.invariant.numbered_are c.loop-piece.invariant.copies_are
      c.in_ok-add_piece.ensures.copies;
  some = next_some c.args.pieces.now c.loop-piece.piece-index _ c.loop-piece-test.true c.loop-piece.invariant.some c.in_ok-add_piece.ensures.some;
}

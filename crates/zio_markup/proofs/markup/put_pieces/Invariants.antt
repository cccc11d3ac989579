use Rattle.std.proofs.Common.{◌≡◌, ◌++◌, string_bytes, take}
use Rattle.zio_markup.specs.Pieces.{pieces_text}
use Rattle.zio_markup.proofs.markup.put_pieces.Given as goal

abbrev pub invariant-loop-piece : goal.invariant-loop-piece
invariant-loop-piece l = string_bytes l.text ≡ string_bytes l.initial.text ++ pieces_text (take l.piece-index l.pieces)

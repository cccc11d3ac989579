-- The text of a picture's pieces.
use Rattle.std.specs.Prelude.{ℕ, List, decimal}
use Rattle.std.specs.List.{flat_map}
use Rattle.zio_markup.specs.declared.markup.Piece.{Piece}
use Rattle.zio_markup.specs.declared.markup.Piece.TheVariants.{Fixed, Number, Outside}
use Rattle.zio_markup.specs.Escapes.{escaped}

-- markup as it stands in the program, a number in decimal, and text from outside escaped
abbrev pub piece_text : Piece → List ℕ
piece_text (Fixed markup) = markup.now
piece_text (Number n) = decimal n
piece_text (Outside text) = escaped text.now

-- one after the other
abbrev pub pieces_text : List Piece → List ℕ
pieces_text pieces = flat_map piece_text pieces

use Rattle.zio_heal.proofs.ContentCasesProofs.{body_is_good, elsewhere_isnt, gang_has_pieces, given_is_good, given_may_be_short, headless_hasnt, kept_is_good, letters_arent, longer_hasnt, other_header_isnt, short_isnt, turned_hasnt, written_is_given, zeros_are_held}
use Rattle.zio_heal.proofs.cases.contents_are_had_piece_by_piece.Goals as goal

pub returns : goal.returns
returns c = record {
  gang_has_pieces = gang_has_pieces;
  turned_hasnt = turned_hasnt;
  longer_hasnt = longer_hasnt;
  headless_hasnt = headless_hasnt;
  body_is_good = body_is_good;
  short_isnt = short_isnt;
  kept_is_good = kept_is_good;
  other_header_isnt = other_header_isnt;
  zeros_are_held = zeros_are_held;
  letters_arent = letters_arent;
  written_is_given = written_is_given;
  elsewhere_isnt = elsewhere_isnt;
  given_is_good = given_is_good;
  given_may_be_short = given_may_be_short;
}

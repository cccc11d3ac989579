use Rattle.zio_heal.proofs.PlacedLemmas.{free_places_law, given_law, held_law, own_law, tree_law}
use Rattle.zio_heal.proofs.laws.placed_writes_have_their_pieces.Goals as goal

pub returns : goal.returns
returns c = record {
  tree = tree_law;
  held = held_law;
  given = given_law;
  sound = own_law;
  apart = free_places_law;
}

use Rattle.zio_gang.proofs.PieceLemmas.{kept_walk_comes}
use Rattle.zio_gang.proofs.laws.a_tree_is_read_by_its_pieces.Goals as goal

pub returns : goal.returns
returns c = kept_walk_comes

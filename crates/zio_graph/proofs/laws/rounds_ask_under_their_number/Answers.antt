use Rattle.zio_graph.proofs.RoundKeys.{keys_of_round}
use Rattle.zio_graph.proofs.laws.rounds_ask_under_their_number.Goals as goal

pub returns : goal.returns
returns g c = keys_of_round g.N.NodeFacts.nodes

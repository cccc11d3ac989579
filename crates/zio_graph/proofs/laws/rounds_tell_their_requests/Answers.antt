use Rattle.zio_graph.proofs.RoundEnds.{tells_round}
use Rattle.zio_graph.proofs.laws.rounds_tell_their_requests.Goals as goal

pub returns : goal.returns
returns c = tells_round

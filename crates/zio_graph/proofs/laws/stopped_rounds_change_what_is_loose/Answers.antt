use Rattle.zio_graph.proofs.Loose.{stopped_loose}
use Rattle.zio_graph.proofs.laws.stopped_rounds_change_what_is_loose.Goals as goal

pub returns : goal.returns
returns c = stopped_loose

use Rattle.zio_graph.proofs.InUse.{leaves_in_use}
use Rattle.zio_graph.proofs.laws.rounds_leave_places_in_use.Goals as goal

pub returns : goal.returns
returns c = leaves_in_use

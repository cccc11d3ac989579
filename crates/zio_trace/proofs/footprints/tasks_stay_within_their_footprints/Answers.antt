use Rattle.zio_trace.proofs.RequestFootprints.{tasks_stay}
use Rattle.zio_trace.proofs.footprints.tasks_stay_within_their_footprints.Goals as goal

pub returns : goal.returns
returns c = tasks_stay

use Rattle.zio_trace.proofs.WholeRound.{settles_each}
use Rattle.zio_trace.proofs.plans.rounds_are_done_by_their_plans.Goals as goal

pub returns : goal.returns
returns c = settles_each

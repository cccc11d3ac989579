use Rattle.zio_trace.proofs.RequestLemmas.{plan_run}
use Rattle.zio_trace.proofs.plans.tasks_are_done_by_their_plans.Goals as goal

pub returns : goal.returns
returns c = plan_run

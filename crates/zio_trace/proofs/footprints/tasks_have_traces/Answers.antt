use Rattle.zio_trace.proofs.WholeTraces.{task_trace}
use Rattle.zio_trace.proofs.footprints.tasks_have_traces.Goals as goal

pub returns : goal.returns
returns c = task_trace

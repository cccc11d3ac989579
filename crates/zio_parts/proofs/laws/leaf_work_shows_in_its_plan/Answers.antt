use Rattle.zio_trace.specs.Tasks.{Got, Wrote}
use Rattle.zio_parts.proofs.PlanLemmas.{planned_answered, planned_next}
use Rattle.zio_parts.proofs.laws.leaf_work_shows_in_its_plan.Goals as goal

pub returns-clause-next_read : goal.returns-clause-next_read
returns-clause-next_read c = λ outs p op h. planned_next Got outs p op h

pub returns-clause-next_write : goal.returns-clause-next_write
returns-clause-next_write c = λ outs p op h. planned_next Wrote outs p op h

pub returns-clause-read_answered : goal.returns-clause-read_answered
returns-clause-read_answered c = λ n v p. planned_answered Got n v p

pub returns-clause-write_answered : goal.returns-clause-write_answered
returns-clause-write_answered c = λ n v p. planned_answered Wrote n v p

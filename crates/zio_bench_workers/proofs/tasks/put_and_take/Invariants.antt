use Rattle.zio_tasks.specs.Team.{IsPassOf}
use Rattle.zio_bench_workers.proofs.tasks.put_and_take.Given as goal

abbrev pub invariant-loop-task : goal.invariant-loop-task
invariant-loop-task g l = IsPassOf l.tasks l.pass

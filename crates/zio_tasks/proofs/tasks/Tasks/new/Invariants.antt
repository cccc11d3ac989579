use Rattle.std.proofs.Common.{◌≡◌, ℕ, ◌<◌, length, slice_index_or}
use Rattle.zio_tasks.specs.declared.tasks.TaskPass.{TaskPass}
use Rattle.zio_tasks.specs.Team.{IsRecruit}
use Rattle.zio_tasks.proofs.tasks.Tasks.new.Given as goal

abbrev pub invariant-loop : goal.invariant-loop
invariant-loop g l =
    (length l.queues.items ≡ l.counter) × (length l.team.items ≡ l.passes)
    × ((j : ℕ) (d : TaskPass g.row.T.Denot) → j < l.passes → IsRecruit l.room l.passes l.counter j l.queues.items (slice_index_or l.team.items j d))

use Rattle.std.proofs.Common.{◌≡◌, ℕ, ◌<◌, [], length, slice_index_or}
use Rattle.zio_tasks.specs.declared.tasks.TaskPass.{TaskPass}
use Rattle.zio_tasks.proofs.tasks.recruits.Given as goal

abbrev pub invariant-loop-number : goal.invariant-loop-number
invariant-loop-number g l = (length l.team.items ≡ l.number) × ((j : ℕ) (d : TaskPass g.row.T.Denot) → j < l.number → ((slice_index_or l.team.items j d).number ≡ j) × ((slice_index_or l.team.items j d).parts.items ≡ []))

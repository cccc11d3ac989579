use Rattle.std.proofs.Common.{◌≡◌, ℕ, ◌-◌, ◌<◌, ◌≤◌, length, slice_index_or}
use Rattle.crossbeam_queue.specs.Passes.{view, IsPassOf as IsSeatOf}
use Rattle.zio_tasks.specs.declared.tasks.TaskPass.{TaskPass}
use Rattle.zio_tasks.specs.Rule.{pile, newcomers}
use Rattle.zio_tasks.specs.Team.{Joins}
use Rattle.zio_tasks.proofs.tasks.join_all.Given as goal

abbrev pub invariant-loop-pass : goal.invariant-loop-pass
invariant-loop-pass g l =
    IsSeatOf l.queue l.all × (view l.all ≡ pile (newcomers l.pass-index (length l.initial.team - l.pass-index)) (length l.initial.team))
    × ((j : ℕ) (d : TaskPass g.row.T.Denot) → j < l.pass-index → Joins (length l.initial.team) j l.queue (slice_index_or l.initial.team j d) (slice_index_or l.team j d))
    × ((j : ℕ) (d : TaskPass g.row.T.Denot) → l.pass-index ≤ j → slice_index_or l.team j d ≡ slice_index_or l.initial.team j d)

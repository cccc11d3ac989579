use Rattle.std.proofs.Common.{◌≡◌, ℕ, ◌<◌, ◌≤◌, slice_index_or, take}
use Rattle.crossbeam_queue.specs.Passes.{view}
use Rattle.zio_tasks.specs.declared.tasks.TaskPass.{TaskPass}
use Rattle.zio_tasks.specs.Team.{IsSeatAt, Lent, hands_at}
use Rattle.zio_tasks.proofs.tasks.Tasks.gather.Given as goal

abbrev pub invariant-loop-pass : goal.invariant-loop-pass
invariant-loop-pass g l =
    IsSeatAt l.self l.place l.all × ((view l.all).hands ≡ hands_at l.place (take l.pass-index l.initial.passes)) × (0 < l.pass-index → (view l.all).passes ≡ l.self.passes)
    × ((j : ℕ) (d : TaskPass g.row.T.Denot) → j < l.pass-index → Lent l.place (slice_index_or l.initial.passes j d) (slice_index_or l.passes j d))
    × ((j : ℕ) (d : TaskPass g.row.T.Denot) → l.pass-index ≤ j → slice_index_or l.passes j d ≡ slice_index_or l.initial.passes j d)

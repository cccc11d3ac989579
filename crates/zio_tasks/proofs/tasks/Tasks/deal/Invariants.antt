use Rattle.std.proofs.Common.{◌≡◌, ℕ, ◌<◌, ◌≤◌, slice_index_or, drop}
use Rattle.crossbeam_queue.specs.Passes.{view}
use Rattle.zio_tasks.specs.declared.tasks.TaskPass.{TaskPass}
use Rattle.zio_tasks.specs.declared.hand.Hand.{Hand}
use Rattle.zio_tasks.specs.Rule.{pile}
use Rattle.zio_tasks.specs.Team.{IsSeatAt, Given}
use Rattle.zio_tasks.proofs.tasks.Tasks.deal.Given as goal

abbrev pub invariant-loop-pass : goal.invariant-loop-pass
invariant-loop-pass g l =
    IsSeatAt l.self l.place l.all × (view l.all ≡ pile (drop l.pass-index (view l.initial.all).hands) l.self.passes)
    × ((j : ℕ) (d : TaskPass g.row.T.Denot) (h : Hand g.row.T.Denot) → j < l.pass-index → Given l.self l.place (slice_index_or (view l.initial.all).hands j h) (slice_index_or l.initial.passes j d) (slice_index_or l.passes j d))
    × ((j : ℕ) (d : TaskPass g.row.T.Denot) → l.pass-index ≤ j → slice_index_or l.passes j d ≡ slice_index_or l.initial.passes j d)

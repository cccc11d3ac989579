use Rattle.std.proofs.Common.{◌≡◌, ◌<◌}
use Rattle.crossbeam_queue.specs.Passes.{view, IsPassOf}
use Rattle.zio_tasks.specs.Rule.{pile, newcomers}
use Rattle.zio_tasks.proofs.part.open_queue.Given as goal

abbrev pub invariant-loop : goal.invariant-loop
invariant-loop g l = IsPassOf l.queue l.all × (0 < l.counter) × (view l.all ≡ pile (newcomers 0 l.counter) l.counter)

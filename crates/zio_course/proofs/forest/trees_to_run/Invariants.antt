use Rattle.std.proofs.Common.{◌≡◌, List, ◌++◌, length}
use Rattle.zio_script.specs.declared.script.Request.{Request}
use Rattle.zio_course.specs.Forests.{IsForest, names_of, running}
use Rattle.zio_course.specs.Runners.{Stays}
use Rattle.zio_course.proofs.forest.trees_to_run.Given as goal

abbrev pub invariant-loop-item : goal.invariant-loop-item
invariant-loop-item g l = (done : List Request) × record {
  all : running l.admission.slots.entries l.admission.rules.items l.rest ++ done ≡ running l.admission.slots.entries l.admission.rules.items l.batch;
  forest : IsForest g.R.Runner.pending (names_of l.bound) l.birth done l.forest.waiting l.forest.roots;
  stays : Stays (g.R.Runner.standing l.fn.runner) (g.R.Runner.standing l.runner) (g.R.Runner.tells l.fn.runner) (g.R.Runner.tells l.runner);
  can : g.R.Runner.Can l.fn.runner → g.R.Runner.Can l.runner;
  same : g.R.Runner.same l.fn.runner l.runner;
}

abbrev pub decreases-loop-item : goal.decreases-loop-item
decreases-loop-item g l = length l.rest

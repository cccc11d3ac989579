use Rattle.std.proofs.Common.{◌≡◌, ◌++◌, map}
use Rattle.zio_course.proofs.round.told_of.Given as goal

abbrev pub invariant-loop-one : goal.invariant-loop-one
invariant-loop-one g l = l.told ++ map g.R.Runner.told l.one-iterator ≡ map g.R.Runner.told l.fn.finished

use Rattle.std.proofs.Common.{◌≡◌, map, take}
use Rattle.zio_course.specs.Runners.{completion_for}
use Rattle.zio_plain.proofs.trees.completions_of.Given as goal

abbrev pub invariant-loop-one : goal.invariant-loop-one
invariant-loop-one l = l.completions ≡ map (completion_for l.round) (take l.one-index l.finished)

use Rattle.std.proofs.Common.{◌≡◌, ◌++◌, map, length, Bor}
use Rattle.zio_script.specs.declared.script.Request.{Request}
use Rattle.zio_script.specs.Requests.{requests_of}
use Rattle.zio_course.proofs.fold.requests_in.Given as goal

abbrev pub invariant-loop-item : goal.invariant-loop-item
invariant-loop-item l = map (λ (r : Bor Request). r.now) l.found.items ++ requests_of l.rest ≡ requests_of l.lines

abbrev pub decreases-loop-item : goal.decreases-loop-item
decreases-loop-item l = length l.rest

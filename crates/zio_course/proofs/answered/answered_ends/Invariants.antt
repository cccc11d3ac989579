use Rattle.std.proofs.Common.{◌≡◌, List, ◌++◌, length, reverse}
use Rattle.zio_script.specs.declared.script.Request.{Request}
use Rattle.zio_script.specs.Requests.{requests_of}
use Rattle.zio_course.specs.Admissions.{error_in}
use Rattle.zio_course.specs.Answered.{answered_in}
use Rattle.zio_course.proofs.answered.answered_ends.Given as goal

abbrev pub invariant-loop-item : goal.invariant-loop-item
invariant-loop-item l = (past : List Request) × record {
  all : requests_of l.rest ++ past ≡ requests_of l.batch;
  done_are : l.done ≡ reverse (answered_in (error_in l.admission.slots.entries l.admission.rules.items) l.round past);
}

abbrev pub decreases-loop-item : goal.decreases-loop-item
decreases-loop-item l = length l.rest

use Rattle.std.proofs.Common.{List, length, reverse}
use Rattle.zio_script.specs.declared.script.Request.{Request}
use Rattle.zio_script.specs.Requests.{requests_of}
use Rattle.zio_course.specs.Admissions.{error_in}
use Rattle.zio_course.proofs.ToldLemmas.{IsTelling}
use Rattle.zio_course.proofs.told.tell_batch.Given as goal

abbrev pub invariant-loop-item : goal.invariant-loop-item
invariant-loop-item l = (front : List Request) ×
    IsTelling (error_in l.admission.slots.entries l.admission.rules.items) l.fn.finished (requests_of l.batch) l.fn.bound l.rest (reverse l.left.items) l.lines l.bound front

abbrev pub decreases-loop-item : goal.decreases-loop-item
decreases-loop-item l = length l.rest

use Rattle.std.proofs.Common.{List, length}
use Rattle.zio_script.specs.declared.script.Request.{Request}
use Rattle.zio_script.specs.Requests.{requests_of}
use Rattle.zio_gang.specs.Rounds.{trees_of}
use Rattle.zio_course.specs.Admissions.{IsAdmission}
use Rattle.zio_course.specs.Names.{is_name_in, is_some_name}
use Rattle.zio_course.proofs.AdmissionLemmas.{IsPart}
use Rattle.zio_course.proofs.admission.Admission.of.Given as goal

abbrev pub invariant-loop-item : goal.invariant-loop-item
invariant-loop-item l = (trees : List (List Request)) × record {
  part : IsPart (trees_of (requests_of l.batch)) l.rest trees;
  noted : IsAdmission l.waits (is_name_in l.awaited) (is_some_name l.bound) trees l.admission.slots.entries l.admission.rules.items;
}

abbrev pub decreases-loop-item : goal.decreases-loop-item
decreases-loop-item l = length l.rest

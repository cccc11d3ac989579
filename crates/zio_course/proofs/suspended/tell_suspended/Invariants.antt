use Rattle.std.proofs.Common.{List, map, drop, reverse, Bor}
use Rattle.zio_script.specs.declared.script.Request.{Request}
use Rattle.zio_course.specs.Told.{no_error}
use Rattle.zio_course.proofs.SuspendedLemmas.{as_lines}
use Rattle.zio_course.proofs.ToldLemmas.{IsTelling}
use Rattle.zio_course.proofs.suspended.tell_suspended.Given as goal

abbrev pub invariant-loop-request : goal.invariant-loop-request
invariant-loop-request l = (front : List Request) ×
    IsTelling no_error l.fn.finished (map (λ (r : Bor Request). r.now) l.unfinished) l.fn.bound
    (as_lines (drop l.request-index (map (λ (r : Bor Request). r.now) l.unfinished))) (reverse l.left.items) l.lines l.bound front

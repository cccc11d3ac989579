use Rattle.std.proofs.Common.{Option, None, ap, sym, ◌∙◌}
use Rattle.zio_types.specs.declared.error.Errno.{Errno}
use Rattle.zio_gang.specs.Rounds.{block_of, bound_after}
use Rattle.zio_course.specs.declared.runner.RequestEnd.{RequestEnd}
use Rattle.zio_course.specs.Forests.{names_of}
use Rattle.zio_course.specs.Told.{ended_by}
use Rattle.zio_course.proofs.PlantLemmas.{named_of}
use Rattle.zio_course.proofs.told.tell_request.Goals as goal

pub returns-in-Some-clause-bound : goal.returns-in-Some-clause-bound
returns-in-Some-clause-bound c name =
    named_of name c.args.bound.now
    ∙ ap (λ (o : Option Errno). block_of (bound_after (ended_by o c.args.finished c.args.request.now) (names_of c.args.bound.now)) name) (sym c.in-Some.is)

pub returns-in_default-finished-clause-bound : goal.returns-in_default-finished-clause-bound
returns-in_default-finished-clause-bound c name =
    named_of name c.args.bound.now
    ∙ (ap (λ (o : Option RequestEnd). block_of (bound_after (ended_by None o c.args.request.now) (names_of c.args.bound.now)) name) (sym c.in_default-finished.is)
    ∙ ap (λ (o : Option Errno). block_of (bound_after (ended_by o c.args.finished c.args.request.now) (names_of c.args.bound.now)) name) (sym c.in_default.is))

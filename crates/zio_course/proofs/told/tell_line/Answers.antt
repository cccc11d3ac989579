use Rattle.std.proofs.Common.{reverse}
use Rattle.zio_course.specs.Admissions.{error_in}
use Rattle.zio_course.proofs.ToldLemmas.{no_request}
use Rattle.zio_course.proofs.told.tell_line.Goals as goal

pub returns-in-Go-clause-bound : goal.returns-in-Go-clause-bound
returns-in-Go-clause-bound c name =
    no_request (error_in c.args.admission.now.slots.entries c.args.admission.now.rules.items) (reverse c.args.left.now.items) c.args.bound.now name c.args.item.now c.in-Go.is

pub returns-in-Go-2-clause-bound : goal.returns-in-Go-2-clause-bound
returns-in-Go-2-clause-bound c name =
    no_request (error_in c.args.admission.now.slots.entries c.args.admission.now.rules.items) (reverse c.args.left.now.items) c.args.bound.now name c.args.item.now c.in-Go.is

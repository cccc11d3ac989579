use Rattle.std.proofs.Common.{◌<◌, add-one, arith, subst, sym, length, take, length-take, IsTrue}
use Rattle.zio_mirror.specs.Plans.{Tries, is_try, step_of}
use Rattle.zio_mirror.proofs.PlanLemmas.{answered_more, room_to_try}
use Rattle.zio_mirror.proofs.plan.ReadPlan.answer.Goals as goal

pub returns-clause-answers : goal.returns-clause-answers
returns-clause-answers c =
    let room : length (take c.self.inside.answered c.self.inside.answers) < length (take c.self.inside.n c.self.inside.order) =
    room_to_try _ _ (subst (λ (plan : Tries). IsTrue (is_try (step_of plan))) (sym c.self.view_is) c.requires) in
    rw (add-one, ← c.self.view_is)
    (answered_more c.self.inside.answered c.self.inside.answers c.args.error
    (omega (arith, length-take c.self.inside.answered c.self.inside.answers, length-take c.self.inside.n c.self.inside.order)))

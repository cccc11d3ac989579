use Rattle.std.proofs.Common.{◌∙◌}
use Rattle.zio_trace.specs.Plans.{plan_tree}
use Rattle.zio_stages.proofs.ToldLemmas.{since_all_heard, since_left}
use Rattle.zio_stages.proofs.own_read.OwnRead.into_found.Goals as goal

pub returns-in-Ok-clause-found : goal.returns-in-Ok-clause-found
returns-in-Ok-clause-found c = λ t family tree front_asked front st h.
    let e = c.in-Ok.ensures.found tree h.asked h.begun h.work in
    (since_all_heard h.begun h.slots h.told e.0, since_left h.begun h.slots (plan_tree tree) h.told ∙ e.1)

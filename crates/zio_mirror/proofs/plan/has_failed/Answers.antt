use Rattle.std.proofs.Common.{sym, ◌∙◌, ap, None}
use Rattle.zio_mirror.specs.Plans.{is_among}
use Rattle.zio_mirror.proofs.PlanLemmas.{failed_children_good, failed_children_past}
use Rattle.zio_mirror.proofs.plan.has_failed.Goals as goal

pub returns-in-None : goal.returns-in-None
returns-in-None c =
    sym (ap (is_among c.args.wanted) (failed_children_good c.loop-i.i c.args.order.now c.args.answers.now None c.loop-i-test.true c.requires c.in-None.is))
    ∙ c.loop-i.invariant

pub returns : goal.returns
returns c = sym (ap (is_among c.args.wanted) (failed_children_past c.loop-i.i c.args.order.now c.args.answers.now c.loop-i-test.false)) ∙ c.loop-i.invariant

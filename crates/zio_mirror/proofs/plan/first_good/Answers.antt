use Rattle.std.proofs.Common.{sym, ◌∙◌, add-one, None}
use Rattle.zio_mirror.proofs.PlanLemmas.{good_child_later, good_child_past}
use Rattle.zio_mirror.proofs.plan.first_good.Goals as goal

pub loop-i-preserved : goal.loop-i-preserved
loop-i-preserved c = rw add-one (good_child_later c.loop-i.i c.args.order.now c.args.answers.now None c.in-Some.field-0 c.loop-i-test.true c.requires c.in-Some.is ∙ c.loop-i.invariant)

pub returns : goal.returns
returns c = sym (good_child_past c.loop-i.i c.args.order.now c.args.answers.now c.loop-i-test.false) ∙ c.loop-i.invariant

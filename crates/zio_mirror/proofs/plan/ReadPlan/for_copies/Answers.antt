use Rattle.zio_mirror.proofs.PlanLemmas.{first_children}
use Rattle.zio_mirror.proofs.plan.ReadPlan.for_copies.Goals as goal

pub returns-clause-order : goal.returns-clause-order
returns-clause-order c = first_children c.args.n c.requires.most

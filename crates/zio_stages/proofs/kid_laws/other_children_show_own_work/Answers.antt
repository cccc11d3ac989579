use Rattle.zio_stages.proofs.KidSeats.{early_under, value_under}
use Rattle.zio_stages.proofs.kid_laws.other_children_show_own_work.Goals as goal

pub returns-clause-early : goal.returns-clause-early
returns-clause-early c = λ r n h. early_under r n h

pub returns-clause-value : goal.returns-clause-value
returns-clause-value c = λ r n x. value_under r n x

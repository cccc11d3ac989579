use Rattle.zio_stages.proofs.KidSeats.{kid_early, kid_told}
use Rattle.zio_stages.proofs.kid_laws.logical_children_are_attempts.Goals as goal

pub returns-clause-early : goal.returns-clause-early
returns-clause-early c = λ r n h. kid_early r n h

pub returns-clause-told : goal.returns-clause-told
returns-clause-told c = λ r n one x. kid_told r n one x

use Rattle.zio_mirror.proofs.ChildLemmas.{tries_next}
use Rattle.zio_mirror.proofs.laws.plans_try_what_is_read_next.Goals as goal

pub returns : goal.returns
returns c = tries_next

use Rattle.zio_tasks.proofs.Lone.{holds_its_own, takes_its_oldest}
use Rattle.zio_tasks.proofs.laws.a_lone_pass_knows_its_queues.Goals as goal

pub returns : goal.returns
returns g c = record { holds = holds_its_own; oldest = takes_its_oldest }

use Rattle.zio_stages.proofs.OwnFreeLemmas.{free_ends}
use Rattle.zio_stages.proofs.own_free.OwnFree.error.Goals as goal

pub returns-clause-ends : goal.returns-clause-ends
returns-clause-ends c = λ family tree front_asked front st h. free_ends c.args.self.now.walk family tree front_asked front st c.in-Ended.error c.in-Ended.is h

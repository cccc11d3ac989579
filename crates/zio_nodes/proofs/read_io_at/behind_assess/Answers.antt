use Rattle.zio_nodes.proofs.StageLemmas.{read_assessed}
use Rattle.zio_nodes.proofs.read_io_at.behind_assess.Goals as goal

pub returns-clause-on : goal.returns-clause-on
returns-clause-on c = λ on. read_assessed c.next-2.result c.next-2.ensures

use Rattle.zio_nodes.proofs.StageLemmas.{read_ready}
use Rattle.zio_nodes.proofs.read_at.behind_ready.Goals as goal

pub returns-clause-plain : goal.returns-clause-plain
returns-clause-plain c = λ plain. read_ready c.next-2.result c.next-2.ensures

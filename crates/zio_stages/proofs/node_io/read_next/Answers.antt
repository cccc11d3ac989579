use Rattle.zio_stages.proofs.NodeIoMoves.{read_owed}
use Rattle.zio_stages.proofs.node_io.read_next.Goals as goal

pub returns-in-Wait-clause-waits : goal.returns-in-Wait-clause-waits
returns-in-Wait-clause-waits c = λ _ t layer family st e seated h. read_owed t layer c.args.io.now family st seated h (c.in-Wait.ensures.outs t _ e h.part)

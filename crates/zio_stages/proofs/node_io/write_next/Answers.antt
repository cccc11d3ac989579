use Rattle.zio_stages.proofs.NodeIoMoves.{write_owed}
use Rattle.zio_stages.proofs.node_io.write_next.Goals as goal

pub returns-in-Wait-clause-waits : goal.returns-in-Wait-clause-waits
returns-in-Wait-clause-waits c = λ _ t bytes layer family st e seated h. write_owed t bytes layer c.args.io.now family st seated h (c.in-Wait.ensures.outs t bytes _ e h.part)

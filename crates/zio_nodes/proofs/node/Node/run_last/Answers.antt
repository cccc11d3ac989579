use Rattle.zio_nodes.proofs.NodeLemmas.{stays_itself}
use Rattle.zio_nodes.proofs.node.Node.run_last.Goals as goal

pub returns-in_err-room-clause-refused : goal.returns-in_err-room-clause-refused
returns-in_err-room-clause-refused g c =
    stays_itself g.S.Services.made (g.S.Services.tops c.args.services.now) c.args.services.now c.args.self.now c.from_residual.result
    (g.met.S.Services.made_none c.args.services.now)

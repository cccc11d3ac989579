use Rattle.zio_nodes.specs.declared.node.Node.TheVariants.{Request}
use Rattle.zio_nodes.proofs.NodeLemmas.{turn_moves, turn_stays}
use Rattle.zio_nodes.proofs.request_at.RequestAt.read_stage.Goals as goal

pub returns-clause-moves : goal.returns-clause-moves
returns-clause-moves g c =
    let s = c.args.services.now in
    let tops = g.S.Services.tops s in
    turn_moves g.S.Services.made tops c.tops.result.now s (Request c.args.self.now) (Request c.read_bare.new.self) c.read_bare.result c.tops.ensures (g.met.S.Services.made_none s) c.read_bare.ensures.moves

pub returns-clause-refused : goal.returns-clause-refused
returns-clause-refused g c =
    let s = c.args.services.now in
    let tops = g.S.Services.tops s in
    turn_stays g.S.Services.made tops c.tops.result.now s (Request c.args.self.now) (Request c.read_bare.new.self) c.read_bare.result c.tops.ensures (g.met.S.Services.made_none s) c.read_bare.ensures.refused

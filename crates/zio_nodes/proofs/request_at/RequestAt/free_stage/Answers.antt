use Rattle.std.proofs.Common.{refl}
use Rattle.zio_nodes.specs.declared.node.Node.TheVariants.{Request}
use Rattle.zio_nodes.proofs.NodeLemmas.{turn_moves, turn_stays}
use Rattle.zio_nodes.proofs.request_at.RequestAt.free_stage.Goals as goal

pub returns-clause-moves : goal.returns-clause-moves
returns-clause-moves g c =
    let s = c.args.services.now in
    let tops = g.S.Services.tops s in
    turn_moves g.S.Services.made tops tops s (Request c.args.self.now) (Request c.free_bare.new.self) c.free_bare.result refl
    (g.met.S.Services.made_none s) (c.free_bare.ensures.moves tops)

pub returns-clause-refused : goal.returns-clause-refused
returns-clause-refused g c =
    let s = c.args.services.now in
    let tops = g.S.Services.tops s in
    turn_stays g.S.Services.made tops tops s (Request c.args.self.now) (Request c.free_bare.new.self) c.free_bare.result refl
    (g.met.S.Services.made_none s) (c.free_bare.ensures.refused tops)

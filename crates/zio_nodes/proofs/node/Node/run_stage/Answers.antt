use Rattle.zio_nodes.proofs.Stalling.{leaves_ok, waits_stalled}
use Rattle.zio_nodes.proofs.node.Node.run_stage.Goals as goal

pub returns-in-Some-clause-moves : goal.returns-in-Some-clause-moves
returns-in-Some-clause-moves g c =
    let s = c.args.services.now in
    waits_stalled g.S.Services.made (g.S.Services.tops s) s c.args.self.now c.in-Some.kind c.in-Some.phase (g.met.S.Services.made_none s)
    (c.stall.ensures.some c.in-Some.kind c.in-Some.phase c.in-Some.is).1

pub returns-clause-leaves : goal.returns-clause-leaves
returns-clause-leaves g c =
    leaves_ok c.args.self.now c.step.new.self c.step.result (c.stall.ensures.none c.in_default.is) c.step.ensures.stages c.step.ensures.leaves

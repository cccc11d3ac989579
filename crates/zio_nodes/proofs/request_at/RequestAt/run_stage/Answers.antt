use Rattle.zio_nodes.specs.Nodes.{moved}
use Rattle.zio_nodes.specs.declared.node.Node.TheVariants.{Request}
use Rattle.std.proofs.Common.{◌≢◌, refl, rules, sym, ◌∙◌}
use Rattle.zio_masks.specs.declared.stage.Stage.TheVariants.{Start}
use Rattle.zio_nodes.proofs.NodeLemmas.{bare_move, turn_moves, turn_stays}
use Rattle.zio_nodes.proofs.NullLemmas.{null_is_ready}
use Rattle.zio_nodes.proofs.request_at.RequestAt.run_stage.Goals as goal

pub returns-then-eq-clause-moves : goal.returns-then-eq-clause-moves
returns-then-eq-clause-moves g c =
    let tops = g.S.Services.tops c.args.services.now in
    turn_moves g.S.Services.made tops tops c.args.services.now (Request c.args.self.now) (Request c.start.new.self) c.start.result refl
    (g.met.S.Services.made_none c.args.services.now) (c.start.ensures.moves tops)

pub returns-then-eq-clause-refused : goal.returns-then-eq-clause-refused
returns-then-eq-clause-refused g c =
    let tops = g.S.Services.tops c.args.services.now in
    turn_stays g.S.Services.made tops tops c.args.services.now (Request c.args.self.now) (Request c.start.new.self) c.start.result refl
    (g.met.S.Services.made_none c.args.services.now) (c.start.ensures.refused tops)

pub returns-in-Null-clause-moves : goal.returns-in-Null-clause-moves
returns-in-Null-clause-moves g c =
    let tops = g.S.Services.tops c.args.services.now in
    bare_move g.S.Services.made tops tops c.args.services.now (Request c.args.self.now) (moved (Request c.null_ready.new.self) c.null_ready.result) refl
    (g.met.S.Services.made_none c.args.services.now) (c.null_ready.ensures.moves tops)

pub null_ready-requires-clause-stage : goal.null_ready-requires-clause-stage
null_ready-requires-clause-stage g c =
    let at = c.args.self.now in
    let behind : at.stage ≢ Start = search rules in
    null_is_ready (g.S.Services.tops c.args.services.now) at.stage at.is_due at.node (sym c.kind.ensures ∙ c.in-Null.is) behind
    c.requires.before c.requires.over.stands

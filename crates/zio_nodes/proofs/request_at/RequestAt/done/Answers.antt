use Rattle.zio_nodes.specs.declared.node.Node.TheVariants.{Request}
use Rattle.std.proofs.Common.{refl}
use Rattle.zio_nodes.proofs.NodeLemmas.{end_moves, turn_stays}
use Rattle.zio_nodes.proofs.request_at.RequestAt.done.Goals as goal

pub returns-in-Null-clause-moves : goal.returns-in-Null-clause-moves
returns-in-Null-clause-moves g c =
    let tops = g.S.Services.tops c.args.services.now in
    end_moves g.S.Services.made tops tops c.args.services.now (Request c.args.self.now) (Request c.null_done.new.self) c.null_done.result refl
    (g.met.S.Services.made_none c.args.services.now) (c.null_done.ensures.moves tops)

pub returns-in-Null-clause-refused : goal.returns-in-Null-clause-refused
returns-in-Null-clause-refused g c =
    let tops = g.S.Services.tops c.args.services.now in
    turn_stays g.S.Services.made tops tops c.args.services.now (Request c.args.self.now) (Request c.null_done.new.self) c.null_done.result refl
    (g.met.S.Services.made_none c.args.services.now) (c.null_done.ensures.refused tops)

pub returns-in-Read-clause-moves : goal.returns-in-Read-clause-moves
returns-in-Read-clause-moves g c =
    let tops = g.S.Services.tops c.args.services.now in
    end_moves g.S.Services.made tops tops c.args.services.now (Request c.args.self.now) (Request c.read_done.new.self) c.read_done.result refl
    (g.met.S.Services.made_none c.args.services.now) (c.read_done.ensures.moves tops)

pub returns-in-Read-clause-refused : goal.returns-in-Read-clause-refused
returns-in-Read-clause-refused g c =
    let tops = g.S.Services.tops c.args.services.now in
    turn_stays g.S.Services.made tops tops c.args.services.now (Request c.args.self.now) (Request c.read_done.new.self) c.read_done.result refl
    (g.met.S.Services.made_none c.args.services.now) (c.read_done.ensures.refused tops)

pub returns-in-Free-clause-moves : goal.returns-in-Free-clause-moves
returns-in-Free-clause-moves g c =
    let tops = g.S.Services.tops c.args.services.now in
    end_moves g.S.Services.made tops tops c.args.services.now (Request c.args.self.now) (Request c.free_done.new.self) c.free_done.result refl
    (g.met.S.Services.made_none c.args.services.now) (c.free_done.ensures.moves tops)

pub returns-in-Free-clause-refused : goal.returns-in-Free-clause-refused
returns-in-Free-clause-refused g c =
    let tops = g.S.Services.tops c.args.services.now in
    turn_stays g.S.Services.made tops tops c.args.services.now (Request c.args.self.now) (Request c.free_done.new.self) c.free_done.result refl
    (g.met.S.Services.made_none c.args.services.now) (c.free_done.ensures.refused tops)

pub returns-in-Claim-clause-moves : goal.returns-in-Claim-clause-moves
returns-in-Claim-clause-moves g c =
    let tops = g.S.Services.tops c.args.services.now in
    end_moves g.S.Services.made tops tops c.args.services.now (Request c.args.self.now) (Request c.claim_done.new.self) c.claim_done.result refl
    (g.met.S.Services.made_none c.args.services.now) (c.claim_done.ensures.moves tops)

pub returns-in-Claim-clause-refused : goal.returns-in-Claim-clause-refused
returns-in-Claim-clause-refused g c =
    let tops = g.S.Services.tops c.args.services.now in
    turn_stays g.S.Services.made tops tops c.args.services.now (Request c.args.self.now) (Request c.claim_done.new.self) c.claim_done.result refl
    (g.met.S.Services.made_none c.args.services.now) (c.claim_done.ensures.refused tops)

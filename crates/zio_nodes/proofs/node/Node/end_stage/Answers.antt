use Rattle.std.proofs.Common.{refl, subst, sym}
use Rattle.std.specs.Prelude.{IfOk, OnErr}
use Rattle.zio_staged.specs.Stages.{Lessens}
use Rattle.zio_nodes.specs.Nodes.{MovesWith, StaysWith, last_moved, left_of}
use Rattle.zio_nodes.specs.declared.node.Node.{Node}
use Rattle.zio_nodes.specs.declared.node.Node.TheVariants.{Copies, Heads, Leaf, Part, Request}
use Rattle.zio_nodes.proofs.LastMoves.{last_stage, last_stages}
use Rattle.zio_nodes.proofs.NodeLemmas.{bare_move, end_moves, turn_stays}
use Rattle.zio_nodes.proofs.node.Node.end_stage.Goals as goal

pub returns-in-Leaf-clause-moves : goal.returns-in-Leaf-clause-moves
returns-in-Leaf-clause-moves g c =
    let after = last_moved (Leaf c.done.new.self) c.done.result in
    subst (λ (n : Node). MovesWith g.S.Services.made (g.S.Services.tops c.args.services.now) c.args.services.now c.args.services.now n after) (sym c.in-Leaf.is)
    (bare_move g.S.Services.made (g.S.Services.tops c.args.services.now) (g.S.Services.tops c.args.services.now) c.args.services.now (Leaf c.in-Leaf.at) after refl (g.met.S.Services.made_none c.args.services.now) (c.done.ensures.moves (g.S.Services.tops c.args.services.now)))

pub returns-in-Leaf-clause-left : goal.returns-in-Leaf-clause-left
returns-in-Leaf-clause-left g c =
    subst (λ (n : Node). Lessens left_of n (last_moved (Leaf c.done.new.self) c.done.result)) (sym c.in-Leaf.is) c.done.ensures.left

pub returns-in-Leaf-clause-stages : goal.returns-in-Leaf-clause-stages
returns-in-Leaf-clause-stages g c = last_stage c.args.self.now (last_moved (Leaf c.done.new.self) c.done.result) c.requires.at_last c.done.ensures.last

pub returns-in-Leaf-clause-over : goal.returns-in-Leaf-clause-over
returns-in-Leaf-clause-over g c = c.done.ensures.over (g.S.Services.tops c.args.services.now)

pub returns-in-Copies-clause-moves : goal.returns-in-Copies-clause-moves
returns-in-Copies-clause-moves g c =
    let after = last_moved c.end_copies.new.self c.end_copies.result in
    bare_move g.S.Services.made (g.S.Services.tops c.args.services.now) c.tops.result.now c.args.services.now c.args.self.now after c.tops.ensures (g.met.S.Services.made_none c.args.services.now) c.end_copies.ensures.moves

pub returns-in-Copies-clause-stages : goal.returns-in-Copies-clause-stages
returns-in-Copies-clause-stages g c = last_stage c.args.self.now (last_moved c.end_copies.new.self c.end_copies.result) c.requires.at_last c.end_copies.ensures.last

pub returns-in-Heads-clause-moves : goal.returns-in-Heads-clause-moves
returns-in-Heads-clause-moves g c =
    subst (λ (n : Node). IfOk c.done-in-Heads.result (λ last. MovesWith g.S.Services.made (g.S.Services.tops c.args.services.now) c.args.services.now c.args.services.now n (last_moved (Heads c.done-in-Heads.new.self) last))) (sym c.in-Heads.is)
    (end_moves g.S.Services.made (g.S.Services.tops c.args.services.now) c.tops-in-Heads.result.now c.args.services.now (Heads c.in-Heads.at) (Heads c.done-in-Heads.new.self) c.done-in-Heads.result c.tops-in-Heads.ensures (g.met.S.Services.made_none c.args.services.now)
    c.done-in-Heads.ensures.moves)

pub returns-in-Heads-clause-refused : goal.returns-in-Heads-clause-refused
returns-in-Heads-clause-refused g c =
    subst (λ (n : Node). OnErr c.done-in-Heads.result (StaysWith g.S.Services.made (g.S.Services.tops c.args.services.now) c.args.services.now c.args.services.now n (Heads c.done-in-Heads.new.self))) (sym c.in-Heads.is)
    (turn_stays g.S.Services.made (g.S.Services.tops c.args.services.now) c.tops-in-Heads.result.now c.args.services.now (Heads c.in-Heads.at) (Heads c.done-in-Heads.new.self) c.done-in-Heads.result c.tops-in-Heads.ensures (g.met.S.Services.made_none c.args.services.now)
    c.done-in-Heads.ensures.refused)

pub returns-in-Heads-clause-left : goal.returns-in-Heads-clause-left
returns-in-Heads-clause-left g c =
    subst (λ (n : Node). IfOk c.done-in-Heads.result (λ last. Lessens left_of n (last_moved (Heads c.done-in-Heads.new.self) last))) (sym c.in-Heads.is) c.done-in-Heads.ensures.left

pub returns-in-Heads-clause-stages : goal.returns-in-Heads-clause-stages
returns-in-Heads-clause-stages g c = last_stages c.args.self.now (Heads c.done-in-Heads.new.self) c.done-in-Heads.result c.requires.at_last c.done-in-Heads.ensures.last

pub returns-in-Part-clause-moves : goal.returns-in-Part-clause-moves
returns-in-Part-clause-moves g c =
    subst (λ (n : Node). IfOk c.done-in-Part.result (λ last. MovesWith g.S.Services.made (g.S.Services.tops c.args.services.now) c.args.services.now c.args.services.now n (last_moved (Part c.done-in-Part.new.self) last))) (sym c.in-Part.is)
    (end_moves g.S.Services.made (g.S.Services.tops c.args.services.now) (g.S.Services.tops c.args.services.now) c.args.services.now (Part c.in-Part.at) (Part c.done-in-Part.new.self) c.done-in-Part.result refl (g.met.S.Services.made_none c.args.services.now)
    (c.done-in-Part.ensures.moves (g.S.Services.tops c.args.services.now)))

pub returns-in-Part-clause-refused : goal.returns-in-Part-clause-refused
returns-in-Part-clause-refused g c =
    subst (λ (n : Node). OnErr c.done-in-Part.result (StaysWith g.S.Services.made (g.S.Services.tops c.args.services.now) c.args.services.now c.args.services.now n (Part c.done-in-Part.new.self))) (sym c.in-Part.is)
    (turn_stays g.S.Services.made (g.S.Services.tops c.args.services.now) (g.S.Services.tops c.args.services.now) c.args.services.now (Part c.in-Part.at) (Part c.done-in-Part.new.self) c.done-in-Part.result refl (g.met.S.Services.made_none c.args.services.now)
    (c.done-in-Part.ensures.refused (g.S.Services.tops c.args.services.now)))

pub returns-in-Part-clause-left : goal.returns-in-Part-clause-left
returns-in-Part-clause-left g c =
    subst (λ (n : Node). IfOk c.done-in-Part.result (λ last. Lessens left_of n (last_moved (Part c.done-in-Part.new.self) last))) (sym c.in-Part.is) c.done-in-Part.ensures.left

pub returns-in-Part-clause-stages : goal.returns-in-Part-clause-stages
returns-in-Part-clause-stages g c = last_stages c.args.self.now (Part c.done-in-Part.new.self) c.done-in-Part.result c.requires.at_last c.done-in-Part.ensures.last

pub returns-in-Request-clause-moves : goal.returns-in-Request-clause-moves
returns-in-Request-clause-moves g c =
    subst (λ (n : Node). IfOk c.done-in-Request.result (λ last. MovesWith g.S.Services.made (g.S.Services.tops c.args.services.now) c.args.services.now c.done-in-Request.new.services n (last_moved (Request c.done-in-Request.new.self) last))) (sym c.in-Request.is)
    c.done-in-Request.ensures.moves

pub returns-in-Request-clause-refused : goal.returns-in-Request-clause-refused
returns-in-Request-clause-refused g c =
    subst (λ (n : Node). OnErr c.done-in-Request.result (StaysWith g.S.Services.made (g.S.Services.tops c.args.services.now) c.args.services.now c.done-in-Request.new.services n (Request c.done-in-Request.new.self))) (sym c.in-Request.is)
    c.done-in-Request.ensures.refused

pub returns-in-Request-clause-left : goal.returns-in-Request-clause-left
returns-in-Request-clause-left g c =
    subst (λ (n : Node). IfOk c.done-in-Request.result (λ last. Lessens left_of n (last_moved (Request c.done-in-Request.new.self) last))) (sym c.in-Request.is) c.done-in-Request.ensures.left

pub returns-in-Request-clause-stages : goal.returns-in-Request-clause-stages
returns-in-Request-clause-stages g c = last_stages c.args.self.now (Request c.done-in-Request.new.self) c.done-in-Request.result c.requires.at_last c.done-in-Request.ensures.last

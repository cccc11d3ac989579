use Rattle.std.proofs.Common.{◌≡◌, ◌∙◌, refl, subst, sym, true}
use Rattle.std.specs.Prelude.{IfOk, OnErr}
use Rattle.zio_staged.specs.Stages.{Lessens}
use Rattle.zio_nodes.specs.Nodes.{MovesWith, StaysWith, left_of, moved}
use Rattle.zio_nodes.specs.StageMoves.{IsStageMove}
use Rattle.zio_nodes.specs.Stalls.{LeavesGang, children_of, hands_many}
use Rattle.zio_nodes.specs.declared.node.Node.{Node}
use Rattle.zio_nodes.specs.declared.node.Node.TheVariants.{Copies, Heads, Leaf, Part, Request}
use Rattle.zio_nodes.proofs.NodeLemmas.{bare_move, turn_moves, turn_stays}
use Rattle.zio_nodes.proofs.Stalling.{hands_bodies}
use Rattle.zio_nodes.specs.Passes.{KeepsPass}
use Rattle.zio_nodes.proofs.PassLemmas.{heads_turn, leaf_turn, tree_turn}
use Rattle.zio_nodes.proofs.node.Node.step.Goals as goal

pub returns-in-Leaf-clause-moves : goal.returns-in-Leaf-clause-moves
returns-in-Leaf-clause-moves g c =
    subst (λ (n : Node). MovesWith g.S.Services.made (g.S.Services.tops c.args.services.now) c.args.services.now c.args.services.now n (moved (Leaf c.run_stage.new.self) c.run_stage.result)) (sym c.in-Leaf.is)
    (bare_move g.S.Services.made (g.S.Services.tops c.args.services.now) (g.S.Services.tops c.args.services.now) c.args.services.now (Leaf c.in-Leaf.at) (moved (Leaf c.run_stage.new.self) c.run_stage.result) refl (g.met.S.Services.made_none c.args.services.now)
    (c.run_stage.ensures.moves (g.S.Services.tops c.args.services.now)))

pub returns-in-Leaf-clause-left : goal.returns-in-Leaf-clause-left
returns-in-Leaf-clause-left g c =
    subst (λ (n : Node). Lessens left_of n (moved (Leaf c.run_stage.new.self) c.run_stage.result)) (sym c.in-Leaf.is) c.run_stage.ensures.left

pub returns-in-Leaf-clause-stages : goal.returns-in-Leaf-clause-stages
returns-in-Leaf-clause-stages g c =
    subst (λ (n : Node). IsStageMove n (moved (Leaf c.run_stage.new.self) c.run_stage.result)) (sym c.in-Leaf.is) c.run_stage.ensures.stages

pub returns-in-Leaf-clause-over : goal.returns-in-Leaf-clause-over
returns-in-Leaf-clause-over g c = c.run_stage.ensures.over (g.S.Services.tops c.args.services.now)

pub returns-in-Copies-clause-moves : goal.returns-in-Copies-clause-moves
returns-in-Copies-clause-moves g c =
    subst (λ (n : Node). IfOk c.run_stage-in-Copies.result (λ turn. MovesWith g.S.Services.made (g.S.Services.tops c.args.services.now) c.args.services.now c.args.services.now n (moved (Copies c.run_stage-in-Copies.new.self) turn))) (sym c.in-Copies.is)
    (turn_moves g.S.Services.made (g.S.Services.tops c.args.services.now) c.tops.result.now c.args.services.now (Copies c.in-Copies.at) (Copies c.run_stage-in-Copies.new.self) c.run_stage-in-Copies.result c.tops.ensures (g.met.S.Services.made_none c.args.services.now)
    c.run_stage-in-Copies.ensures.moves)

pub returns-in-Copies-clause-refused : goal.returns-in-Copies-clause-refused
returns-in-Copies-clause-refused g c =
    subst (λ (n : Node). OnErr c.run_stage-in-Copies.result (StaysWith g.S.Services.made (g.S.Services.tops c.args.services.now) c.args.services.now c.args.services.now n (Copies c.run_stage-in-Copies.new.self))) (sym c.in-Copies.is)
    (turn_stays g.S.Services.made (g.S.Services.tops c.args.services.now) c.tops.result.now c.args.services.now (Copies c.in-Copies.at) (Copies c.run_stage-in-Copies.new.self) c.run_stage-in-Copies.result c.tops.ensures (g.met.S.Services.made_none c.args.services.now)
    c.run_stage-in-Copies.ensures.refused)

pub returns-in-Copies-clause-left : goal.returns-in-Copies-clause-left
returns-in-Copies-clause-left g c =
    subst (λ (n : Node). IfOk c.run_stage-in-Copies.result (λ turn. Lessens left_of n (moved (Copies c.run_stage-in-Copies.new.self) turn))) (sym c.in-Copies.is) c.run_stage-in-Copies.ensures.left

pub returns-in-Copies-clause-stages : goal.returns-in-Copies-clause-stages
returns-in-Copies-clause-stages g c =
    subst (λ (n : Node). IfOk c.run_stage-in-Copies.result (λ turn. IsStageMove n (moved (Copies c.run_stage-in-Copies.new.self) turn))) (sym c.in-Copies.is) c.run_stage-in-Copies.ensures.stages

pub returns-in-Heads-clause-moves : goal.returns-in-Heads-clause-moves
returns-in-Heads-clause-moves g c =
    subst (λ (n : Node). IfOk c.run_stage-in-Heads.result (λ turn. MovesWith g.S.Services.made (g.S.Services.tops c.args.services.now) c.args.services.now c.args.services.now n (moved (Heads c.run_stage-in-Heads.new.self) turn))) (sym c.in-Heads.is)
    (turn_moves g.S.Services.made (g.S.Services.tops c.args.services.now) c.tops-in-Heads.result.now c.args.services.now (Heads c.in-Heads.at) (Heads c.run_stage-in-Heads.new.self) c.run_stage-in-Heads.result c.tops-in-Heads.ensures (g.met.S.Services.made_none c.args.services.now)
    c.run_stage-in-Heads.ensures.moves)

pub returns-in-Heads-clause-refused : goal.returns-in-Heads-clause-refused
returns-in-Heads-clause-refused g c =
    subst (λ (n : Node). OnErr c.run_stage-in-Heads.result (StaysWith g.S.Services.made (g.S.Services.tops c.args.services.now) c.args.services.now c.args.services.now n (Heads c.run_stage-in-Heads.new.self))) (sym c.in-Heads.is)
    (turn_stays g.S.Services.made (g.S.Services.tops c.args.services.now) c.tops-in-Heads.result.now c.args.services.now (Heads c.in-Heads.at) (Heads c.run_stage-in-Heads.new.self) c.run_stage-in-Heads.result c.tops-in-Heads.ensures (g.met.S.Services.made_none c.args.services.now)
    c.run_stage-in-Heads.ensures.refused)

pub returns-in-Heads-clause-left : goal.returns-in-Heads-clause-left
returns-in-Heads-clause-left g c =
    subst (λ (n : Node). IfOk c.run_stage-in-Heads.result (λ turn. Lessens left_of n (moved (Heads c.run_stage-in-Heads.new.self) turn))) (sym c.in-Heads.is) c.run_stage-in-Heads.ensures.left

pub returns-in-Heads-clause-stages : goal.returns-in-Heads-clause-stages
returns-in-Heads-clause-stages g c =
    subst (λ (n : Node). IfOk c.run_stage-in-Heads.result (λ turn. IsStageMove n (moved (Heads c.run_stage-in-Heads.new.self) turn))) (sym c.in-Heads.is) c.run_stage-in-Heads.ensures.stages

pub returns-in-Part-clause-moves : goal.returns-in-Part-clause-moves
returns-in-Part-clause-moves g c =
    subst (λ (n : Node). IfOk c.run_stage-in-Part.result (λ turn. MovesWith g.S.Services.made (g.S.Services.tops c.args.services.now) c.args.services.now c.run_stage-in-Part.new.services n (moved (Part c.run_stage-in-Part.new.self) turn))) (sym c.in-Part.is)
    c.run_stage-in-Part.ensures.moves

pub returns-in-Part-clause-refused : goal.returns-in-Part-clause-refused
returns-in-Part-clause-refused g c =
    subst (λ (n : Node). OnErr c.run_stage-in-Part.result (StaysWith g.S.Services.made (g.S.Services.tops c.args.services.now) c.args.services.now c.run_stage-in-Part.new.services n (Part c.run_stage-in-Part.new.self))) (sym c.in-Part.is)
    c.run_stage-in-Part.ensures.refused

pub returns-in-Part-clause-left : goal.returns-in-Part-clause-left
returns-in-Part-clause-left g c =
    subst (λ (n : Node). IfOk c.run_stage-in-Part.result (λ turn. Lessens left_of n (moved (Part c.run_stage-in-Part.new.self) turn))) (sym c.in-Part.is) c.run_stage-in-Part.ensures.left

pub returns-in-Part-clause-stages : goal.returns-in-Part-clause-stages
returns-in-Part-clause-stages g c =
    subst (λ (n : Node). IfOk c.run_stage-in-Part.result (λ turn. IsStageMove n (moved (Part c.run_stage-in-Part.new.self) turn))) (sym c.in-Part.is) c.run_stage-in-Part.ensures.stages

pub returns-in-Request-clause-moves : goal.returns-in-Request-clause-moves
returns-in-Request-clause-moves g c =
    subst (λ (n : Node). IfOk c.run_stage-in-Request.result (λ turn. MovesWith g.S.Services.made (g.S.Services.tops c.args.services.now) c.args.services.now c.run_stage-in-Request.new.services n (moved (Request c.run_stage-in-Request.new.self) turn))) (sym c.in-Request.is)
    c.run_stage-in-Request.ensures.moves

pub returns-in-Request-clause-refused : goal.returns-in-Request-clause-refused
returns-in-Request-clause-refused g c =
    subst (λ (n : Node). OnErr c.run_stage-in-Request.result (StaysWith g.S.Services.made (g.S.Services.tops c.args.services.now) c.args.services.now c.run_stage-in-Request.new.services n (Request c.run_stage-in-Request.new.self))) (sym c.in-Request.is)
    c.run_stage-in-Request.ensures.refused

pub returns-in-Request-clause-left : goal.returns-in-Request-clause-left
returns-in-Request-clause-left g c =
    subst (λ (n : Node). IfOk c.run_stage-in-Request.result (λ turn. Lessens left_of n (moved (Request c.run_stage-in-Request.new.self) turn))) (sym c.in-Request.is) c.run_stage-in-Request.ensures.left

pub returns-in-Request-clause-stages : goal.returns-in-Request-clause-stages
returns-in-Request-clause-stages g c =
    subst (λ (n : Node). IfOk c.run_stage-in-Request.result (λ turn. IsStageMove n (moved (Request c.run_stage-in-Request.new.self) turn))) (sym c.in-Request.is) c.run_stage-in-Request.ensures.stages

pub returns-in-Request-clause-leaves : goal.returns-in-Request-clause-leaves
returns-in-Request-clause-leaves g c =
    subst (λ (n : Node). hands_many n ≡ true → IfOk c.run_stage-in-Request.result (λ turn. LeavesGang (children_of n) (moved (Request c.run_stage-in-Request.new.self) turn))) (sym c.in-Request.is)
    (λ many. let both = hands_bodies c.in-Request.at many in c.run_stage-in-Request.ensures.leaves both.0 both.1)

pub returns-then-is_tree-clause-moves : goal.returns-then-is_tree-clause-moves
returns-then-is_tree-clause-moves g c =
    let s = c.args.services.now in
    let tops = g.S.Services.tops s in
    turn_moves g.S.Services.made tops tops s c.args.self.now c.start_tree.new.self c.start_tree.result refl (g.met.S.Services.made_none s) (c.start_tree.ensures.moves tops)

pub returns-then-is_tree-clause-refused : goal.returns-then-is_tree-clause-refused
returns-then-is_tree-clause-refused g c =
    let s = c.args.services.now in
    let tops = g.S.Services.tops s in
    turn_stays g.S.Services.made tops tops s c.args.self.now c.start_tree.new.self c.start_tree.result refl (g.met.S.Services.made_none s) (c.start_tree.ensures.refused tops)

pub returns-then-is_tree-clause-over : goal.returns-then-is_tree-clause-over
returns-then-is_tree-clause-over g c = c.start_tree.ensures.over (g.S.Services.tops c.args.services.now) c.requires.over

pub returns-in-Leaf-clause-pass : goal.returns-in-Leaf-clause-pass
returns-in-Leaf-clause-pass g c = leaf_turn c.args.self.now c.in-Leaf.at c.run_stage.new.self c.run_stage.result c.in-Leaf.is

pub returns-in-Heads-clause-pass : goal.returns-in-Heads-clause-pass
returns-in-Heads-clause-pass g c = heads_turn c.args.self.now c.in-Heads.at c.run_stage-in-Heads.new.self c.run_stage-in-Heads.result c.in-Heads.is

pub returns-in-Copies-clause-pass : goal.returns-in-Copies-clause-pass
returns-in-Copies-clause-pass g c = subst (λ (n : Node). IfOk c.run_stage-in-Copies.result (λ turn. KeepsPass n (moved (Copies c.run_stage-in-Copies.new.self) turn))) (sym c.in-Copies.is) c.run_stage-in-Copies.ensures.pass

pub returns-in-Part-clause-pass : goal.returns-in-Part-clause-pass
returns-in-Part-clause-pass g c = subst (λ (n : Node). IfOk c.run_stage-in-Part.result (λ turn. KeepsPass n (moved (Part c.run_stage-in-Part.new.self) turn))) (sym c.in-Part.is) c.run_stage-in-Part.ensures.pass

pub returns-in-Request-clause-pass : goal.returns-in-Request-clause-pass
returns-in-Request-clause-pass g c = subst (λ (n : Node). IfOk c.run_stage-in-Request.result (λ turn. KeepsPass n (moved (Request c.run_stage-in-Request.new.self) turn))) (sym c.in-Request.is) c.run_stage-in-Request.ensures.pass

pub returns-then-is_tree-clause-pass : goal.returns-then-is_tree-clause-pass
returns-then-is_tree-clause-pass g c = tree_turn c.args.self.now c.start_tree.new.self c.start_tree.result (sym c.is_tree.ensures ∙ c.if-is_tree.true)

use Rattle.std.proofs.Common.{[], ◌∙◌, ap, refl, subst, sym}
use Rattle.zio_nodes.specs.Nodes.{StaysBare, node_in}
use Rattle.zio_nodes.specs.declared.node.Node.{Node}
use Rattle.zio_nodes.specs.declared.node.Node.TheVariants.{Leaf}
use Rattle.zio_nodes.specs.declared.node_box.NodeBox.TheInside.{Inside}
use Rattle.zio_nodes.proofs.KeptNodes.{each_kept, moves_kept}
use Rattle.zio_nodes.proofs.NodeLemmas.{bare_move}
use Rattle.zio_nodes.proofs.Refused.{on_err, stays_same}
use Rattle.zio_nodes.proofs.node_box.NodeBoxStaged.run_stage.Goals as goal
use Rattle.zio_nodes.proofs.node_box.NodeBoxStaged.run_stage.Goals.{in-Leaf+in_ok-turn-in-Leaf, in-Other+in_ok-turn-in-Other}

pub returns-in_err-turn-in-Leaf-clause-refused : goal.returns-in_err-turn-in-Leaf-clause-refused
returns-in_err-turn-in-Leaf-clause-refused g c =
    let s = c.args.services.now in
    let tops = g.S.Services.tops s in
    let x : Node = c.args.self.now in
    let was = sym c.self.view_is ∙ ap node_in c.in-Leaf.is in
    let same = ap Leaf c.in_err-turn-in-Leaf.ensures.same ∙ sym was in
    on_err c.from_residual.result ([], g.met.S.Services.made_none s, stays_same tops x (Leaf c.step.new.self) same)

pub returns-clause-moves : goal.returns-clause-moves
returns-clause-moves g c =
    let s = c.args.services.now in
    let tops = g.S.Services.tops s in
    let x : Node = c.args.self.now in
    let seen : Node = node_in c.match-self.self-inside.kept in
    elim c.match-self.branch [
      | in-Leaf+in_ok-turn-in-Leaf w ↦
          let was = sym c.self.view_is ∙ ap node_in w.in-Leaf.is in
          let new : Node = Leaf w.step.new.self in
          moves_kept g.S.Services.made tops s s c.match-self.services x (Leaf w.in-Leaf.at) seen new c.match-self.turn w.in_ok-turn-in-Leaf.turn
          c.staged.result was (ap (λ (i : Inside). node_in i.kept) w.self-inside-is) w.turn-is w.services-is c.staged.ensures
          (bare_move g.S.Services.made tops tops s (Leaf w.in-Leaf.at) _ refl (g.met.S.Services.made_none s) (w.in_ok-turn-in-Leaf.ensures.moves tops))
      | in-Other+in_ok-turn-in-Other w ↦
          let was = sym c.self.view_is ∙ ap node_in w.in-Other.is ∙ sym w.deref_mut.ensures.value in
          moves_kept g.S.Services.made tops s w.run_stage.new.services c.match-self.services x w.deref_mut.result.now seen w.run_stage.new.self
          c.match-self.turn w.in_ok-turn-in-Other.turn c.staged.result was (ap (λ (i : Inside). node_in i.kept) w.self-inside-is) w.turn-is
          w.services-is c.staged.ensures w.in_ok-turn-in-Other.ensures.moves
    ]

pub returns-clause-over : goal.returns-clause-over
returns-clause-over g c =
    let s = c.args.services.now in
    let tops = g.S.Services.tops s in
    let seen : Node = node_in c.match-self.self-inside.kept in
    elim c.match-self.branch [
      | in-Leaf+in_ok-turn-in-Leaf w ↦
          each_kept tops seen (Leaf w.step.new.self) c.match-self.turn w.in_ok-turn-in-Leaf.turn c.staged.result
          (ap (λ (i : Inside). node_in i.kept) w.self-inside-is) w.turn-is c.staged.ensures (w.in_ok-turn-in-Leaf.ensures.over tops)
      | in-Other+in_ok-turn-in-Other w ↦
          each_kept tops seen w.run_stage.new.self c.match-self.turn w.in_ok-turn-in-Other.turn c.staged.result
          (ap (λ (i : Inside). node_in i.kept) w.self-inside-is) w.turn-is c.staged.ensures w.in_ok-turn-in-Other.ensures.over
    ]

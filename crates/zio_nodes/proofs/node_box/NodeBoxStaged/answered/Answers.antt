use Rattle.std.proofs.Common.{◌∙◌, ap, subst, sym}
use Rattle.zio_nodes.specs.Nodes.{IsNodeOver, node_in}
use Rattle.zio_nodes.specs.declared.node_box.NodeBox.TheInside.{Inside}
use Rattle.zio_nodes.proofs.node_box.NodeBoxStaged.answered.Goals as goal
use Rattle.zio_nodes.proofs.node_box.NodeBoxStaged.answered.Goals.{in-Leaf, in-Other}

pub returns-clause-over : goal.returns-clause-over
returns-clause-over c = λ tops h. elim c.match-self.branch [
  | in-Leaf w ↦ subst (λ (x : Inside). IsNodeOver tops (node_in x.kept)) (sym w.self-inside-is) w.answered.ensures.stands
  | in-Other w ↦
      let same = sym c.self.view_is ∙ ap node_in w.in-Other.is ∙ sym w.deref_mut.ensures.value in
      subst (λ (x : Inside). IsNodeOver tops (node_in x.kept)) (sym w.self-inside-is)
      (w.answered-in-Other.ensures.over tops (subst (IsNodeOver tops) same h))
]

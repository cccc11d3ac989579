use Rattle.std.proofs.Common.{[], ◌∙◌, ap, subst, sym}
use Rattle.zio_staged.specs.Stages.{GoesOn, IsNow}
use Rattle.zio_nodes.specs.Nodes.{IsNodeOver, gave_of, node_in, nodes}
use Rattle.zio_nodes.specs.declared.node.Node.{Node}
use Rattle.zio_nodes.specs.declared.node.Node.TheVariants.{Leaf}
use Rattle.zio_nodes.specs.declared.node_box.NodeBox.TheInside.{Inside}
use Rattle.zio_nodes.proofs.node_box.NodeBoxStaged.go_on.Goals as goal
use Rattle.zio_nodes.proofs.node_box.NodeBoxStaged.go_on.Goals.{in-Leaf, in-Other}

pub returns-clause-moves : goal.returns-clause-moves
returns-clause-moves c = λ tops t st now.
    let x : Node = c.args.self.now in
    elim c.match-self.branch [
      | in-Leaf w ↦
          let same = sym c.self.view_is ∙ ap node_in w.in-Leaf.is in
          subst (λ (i : Inside). GoesOn {N = Node} nodes gave_of t x st [] (node_in i.kept)) (sym w.self-inside-is)
          (subst (λ (n : Node). GoesOn {N = Node} nodes gave_of t n st [] (Leaf w.go_on.new.self)) (sym same)
          (w.go_on.ensures.moves tops t st (subst (λ (n : Node). IsNow {N = Node} nodes tops t n st) same now)))
      | in-Other w ↦
          let same = sym c.self.view_is ∙ ap node_in w.in-Other.is ∙ sym w.deref_mut.ensures.value in
          subst (λ (i : Inside). GoesOn {N = Node} nodes gave_of t x st [] (node_in i.kept)) (sym w.self-inside-is)
          (subst (λ (n : Node). GoesOn {N = Node} nodes gave_of t n st [] w.go_on-in-Other.new.self) (sym same)
          (w.go_on-in-Other.ensures.moves tops t st (subst (λ (n : Node). IsNow {N = Node} nodes tops t n st) same now)))
    ]

pub returns-clause-over : goal.returns-clause-over
returns-clause-over c = λ tops h. elim c.match-self.branch [
  | in-Leaf w ↦ subst (λ (i : Inside). IsNodeOver tops (node_in i.kept)) (sym w.self-inside-is) (w.go_on.ensures.over tops)
  | in-Other w ↦
      let same = sym c.self.view_is ∙ ap node_in w.in-Other.is ∙ sym w.deref_mut.ensures.value in
      subst (λ (i : Inside). IsNodeOver tops (node_in i.kept)) (sym w.self-inside-is)
      (w.go_on-in-Other.ensures.over tops (subst (IsNodeOver tops) same h))
]

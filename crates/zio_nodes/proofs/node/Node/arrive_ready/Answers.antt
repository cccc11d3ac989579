use Rattle.std.proofs.Common.{inl, inr, subst}
use Rattle.zio_staged.specs.Stages.{HearsEarly}
use Rattle.zio_nodes.specs.Nodes.{IsNode, nodes}
use Rattle.zio_nodes.specs.declared.node.Node.{Node}
use Rattle.zio_nodes.proofs.CopiesLemmas.{no_teller}
use Rattle.zio_nodes.proofs.LeafLemmas.{no_child}
use Rattle.zio_nodes.proofs.TreeAtLemmas.{no_tree_child}
use Rattle.zio_nodes.proofs.node.Node.arrive_ready.Goals as goal

pub unreachable-requires : goal.unreachable-requires
unreachable-requires c =
    let k = c.requires.awaited in
    let P : Node → Type 0 = λ n. HearsEarly {N = Node} nodes k.terms n k.stack c.args.child k.child in
    elim c.in-Leaf.is [
      | inl at ↦
          let h = subst P at.1 k.hears in
          no_child k.terms at.0 k.stack c.args.child k.child h.is h.there
      | inr rest ↦ elim rest [
        | inl at ↦
            let h = subst P at.1 k.hears in
            no_teller k.terms at.0 k.stack c.args.child k.child h.is h.seated h.there h.goes h.untold
        | inr other ↦ elim other [
          | inl at ↦
              let h = subst P at.1 k.hears in
              no_tree_child k.terms at.0 k.stack c.args.child k.child h.is h.there
          | inr none ↦ subst (λ (n : Node). IsNode k.terms n k.stack) none k.hears.is
        ]
      ]
    ]

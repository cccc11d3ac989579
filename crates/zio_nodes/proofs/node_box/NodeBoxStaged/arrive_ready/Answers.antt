use Rattle.std.proofs.Common.{◌∙◌, ap, subst, sym}
use Rattle.zio_nodes.specs.Nodes.{IsNodeOver, node_in}
use Rattle.zio_nodes.proofs.node_box.NodeBoxStaged.arrive_ready.Goals as goal

pub returns-clause-over : goal.returns-clause-over
returns-clause-over c = λ tops h.
    let same = sym c.self.view_is ∙ ap node_in c.in-Other.is ∙ sym c.deref_mut.ensures.value in
    c.arrive_ready.ensures.over tops (subst (IsNodeOver tops) same h)

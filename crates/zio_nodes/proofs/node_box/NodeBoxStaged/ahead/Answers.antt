use Rattle.std.proofs.Common.{◌∙◌, ap, subst, sym}
use Rattle.zio_nodes.specs.Nodes.{IsNodeOver, node_in}
use Rattle.zio_nodes.proofs.node_box.NodeBoxStaged.ahead.Goals as goal

pub ahead-requires-in-Other : goal.ahead-requires-in-Other
ahead-requires-in-Other c =
    let same = sym c.self.view_is ∙ ap node_in c.in-Other.is ∙ sym c.deref.ensures in
    (c.args._tops.now, subst (IsNodeOver c.args._tops.now) same c.requires.over)

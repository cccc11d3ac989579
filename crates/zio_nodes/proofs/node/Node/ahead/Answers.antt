use Rattle.std.proofs.Common.{subst, sym}
use Rattle.std.proofs.lemmas.Option.{IfSome_then}
use Rattle.zio_nodes.specs.Aheads.{FitsNode}
use Rattle.zio_nodes.specs.Nodes.{IsNodeOver}
use Rattle.zio_nodes.specs.declared.node.Node.{Node}
use Rattle.zio_nodes.proofs.node.Node.ahead.Goals as goal

pub ahead-requires : goal.ahead-requires
ahead-requires c = (c.requires.0, subst (IsNodeOver c.requires.0) c.in-Request.is c.requires.1)

pub returns-in-Request : goal.returns-in-Request
returns-in-Request c =
    IfSome_then c.ahead.result c.ahead.ensures (λ ahead fits. subst (λ (n : Node). FitsNode n ahead) (sym c.in-Request.is) fits)

pub returns-in-Leaf : goal.returns-in-Leaf
returns-in-Leaf c =
    IfSome_then c.ahead-in-Leaf.result c.ahead-in-Leaf.ensures (λ ahead fits. subst (λ (n : Node). FitsNode n ahead) (sym c.in-Leaf.is) fits)

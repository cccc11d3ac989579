use Rattle.std.proofs.Common.{[], ap, sym, ◌∙◌, ◌∷◌}
use Rattle.zio_types.specs.declared.request.ChildKind.TheVariants.{Vdev}
use Rattle.zio_types.specs.declared.request.Phase.TheVariants.{Done}
use Rattle.zio_stages.specs.NodeChildren.{first_owing}
use Rattle.zio_stages.specs.declared.family.Layer.TheVariants.{Own}
use Rattle.zio_stages.proofs.copies_node.CopiesNode.vdev_io_done.Goals as goal

pub returns-clause-waits : goal.returns-clause-waits
returns-clause-waits c = λ wait t st e seated h.
    ap (first_owing (Vdev ∷ []) Done) (sym h.children) ∙ c.read_next.ensures.waits wait t Own c.args.self.now.family st e seated h

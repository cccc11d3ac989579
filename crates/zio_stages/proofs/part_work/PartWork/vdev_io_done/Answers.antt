use Rattle.zio_stages.specs.declared.family.Layer.TheVariants.{Within}
use Rattle.std.proofs.Common.{[], ap, sym, ◌∙◌, ◌∷◌}
use Rattle.zio_types.specs.declared.request.ChildKind.TheVariants.{Vdev}
use Rattle.zio_types.specs.declared.request.Phase.TheVariants.{Done}
use Rattle.zio_stages.specs.NodeChildren.{first_owing}
use Rattle.zio_stages.proofs.PartMoves.{write_at}
use Rattle.zio_stages.proofs.part_work.PartWork.vdev_io_done.Goals as goal

pub returns-in-Some-clause-waits : goal.returns-in-Some-clause-waits
returns-in-Some-clause-waits c = λ wait t f o st e seated h.
    let w = c.args.self.now in
    ap (first_owing (Vdev ∷ []) Done) (sym h.children)
    ∙ c.write_next.ensures.waits wait t w.bytes Within c.args.family.now st e seated (write_at t w c.args.family.now f o st c.in-Some.io c.in-Some.is h)

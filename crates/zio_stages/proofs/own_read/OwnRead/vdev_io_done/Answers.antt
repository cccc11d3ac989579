use Rattle.std.proofs.Common.{◌∷◌, [], List, ap, sym, ◌∙◌}
use Rattle.std.specs.List.{list_any}
use Rattle.zio_types.specs.declared.request.ChildKind.TheVariants.{Vdev}
use Rattle.zio_types.specs.declared.request.Phase.TheVariants.{Done}
use Rattle.zio_frames.specs.Frames.{Child}
use Rattle.zio_stages.specs.NodeChildren.{is_owing}
use Rattle.zio_stages.specs.declared.family.Layer.TheVariants.{Within}
use Rattle.zio_stages.proofs.OwingLemmas.{some_owing}
use Rattle.zio_stages.proofs.OwnReadLemmas.{body_over, read_at}
use Rattle.zio_stages.proofs.own_read.OwnRead.vdev_io_done.Goals as goal

pub read_next-requires : goal.read_next-requires
read_next-requires c = (body_over c.args.tops.now c.args.self.now c.in-Some.body c.requires.0 c.in-Some.is c.requires.1).over

pub returns-in-Some-clause-waits : goal.returns-in-Some-clause-waits
returns-in-Some-clause-waits c = λ e t family tree front_asked front st tops seated h.
    let w = c.args.self.now in
    let owed = c.read_next.ensures.waits e t Within family st tops seated (read_at t w c.in-Some.body family tree front_asked front st c.in-Some.is h) in
    ap (λ (cs : List Child). list_any (is_owing Vdev Done) cs) (sym h.children) ∙ (some_owing (Vdev ∷ []) Done family Vdev owed).1

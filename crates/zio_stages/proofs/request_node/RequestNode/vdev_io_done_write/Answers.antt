use Rattle.std.proofs.Common.{subst, sym}
use Rattle.zio_stages.specs.RequestCounts.{IsMoreDueWrite}
use Rattle.zio_stages.specs.RequestNodes.{IsOwnOver}
use Rattle.zio_stages.specs.RequestWrites.{IsDueWrite}
use Rattle.zio_stages.specs.declared.request_node.Own.{Own}
use Rattle.zio_stages.proofs.RequestWriteLemmas.{front_in, part_at, write_in, writes_only}
use Rattle.zio_stages.proofs.request_node.RequestNode.vdev_io_done_write.Goals as goal

pub unreachable-requires : goal.unreachable-requires
unreachable-requires c = writes_only _ c.args.self.now.own c.requires.issued c.in_default.not-Write

pub vdev_io_done-requires : goal.vdev_io_done-requires
vdev_io_done-requires c = subst (λ (o : Own). IsOwnOver c.args.tops.now o c.args.self.now.family) c.in-Write.is c.requires.over

pub returns-clause-waits : goal.returns-clause-waits
returns-clause-waits c = λ wait t st e seated h.
    let r = c.args.self.now in
    let w = c.in-Write.own in
    let own = write_in t r st w h c.in-Write.is in
    c.vdev_io_done.ensures.waits wait t (front_in t r st h) own.part st e seated (part_at t r st w h own)

pub returns-clause-due : goal.returns-clause-due
returns-clause-due c = λ on. subst (IsDueWrite c.args.tops.now) (sym c.in-Write.is) (c.vdev_io_done.ensures.due on)

pub returns-clause-more : goal.returns-clause-more
returns-clause-more c = λ on. subst (IsMoreDueWrite c.args.tops.now) (sym c.in-Write.is) (c.vdev_io_done.ensures.more on)

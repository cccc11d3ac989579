use Rattle.std.proofs.Common.{[], ap, refl, subst, sym, ◌∙◌}
use Rattle.zio_stages.specs.RequestCounts.{asked_of, second_of}
use Rattle.zio_stages.specs.RequestNodes.{IsOwnOver}
use Rattle.zio_stages.specs.RequestWrites.{IsDueWrite, IsIssuedWrite, IsReadyWrite}
use Rattle.zio_stages.specs.declared.request_node.Own.{Own}
use Rattle.zio_stages.proofs.PartMoves.{does_map}
use Rattle.zio_stages.proofs.RequestWriteLemmas.{front_in, node_at, part_at, write_in, writes_only}
use Rattle.zio_stages.proofs.request_node.RequestNode.vdev_io_assess_write.Goals as goal

pub unreachable-requires : goal.unreachable-requires
unreachable-requires c = writes_only _ c.args.self.now.own c.requires.issued c.in_default.not-Write

pub vdev_io_assess-requires-clause-over : goal.vdev_io_assess-requires-clause-over
vdev_io_assess-requires-clause-over c =
    subst (λ (o : Own). IsOwnOver c.args.tops.now o c.args.self.now.family) c.in-Write.is c.requires.over

pub vdev_io_assess-requires-clause-due : goal.vdev_io_assess-requires-clause-due
vdev_io_assess-requires-clause-due c = subst (IsDueWrite c.args.tops.now) c.in-Write.is c.requires.due

pub returns-clause-does : goal.returns-clause-does
returns-clause-does c = λ t st e h.
    let r = c.args.self.now in
    let w = c.in-Write.field-0 in
    let own = write_in t r st w h c.in-Write.is in
    does_map t st [] _ _ (λ next at. node_at t r st next w _ r.family h own at)
    (c.vdev_io_assess.ensures.does t (front_in t r st h) own.part st e (part_at t r st w h own))

pub returns-clause-ready : goal.returns-clause-ready
returns-clause-ready c = λ h. c.vdev_io_assess.ensures.far.ready (subst IsReadyWrite c.in-Write.is h)

pub returns-clause-issued : goal.returns-clause-issued
returns-clause-issued c = c.vdev_io_assess.ensures.far.issued (subst IsIssuedWrite c.in-Write.is c.requires.issued)

pub returns-clause-written : goal.returns-clause-written
returns-clause-written c =
    λ no. (
      c.vdev_io_assess.ensures.none no,
      c.vdev_io_assess.ensures.far.issued (subst IsIssuedWrite c.in-Write.is c.requires.issued),
    )

pub returns-clause-count : goal.returns-clause-count
returns-clause-count c = λ yes. c.vdev_io_assess.ensures.count yes ∙ ap asked_of (sym c.in-Write.is)

pub returns-clause-again : goal.returns-clause-again
returns-clause-again c = λ yes.
    let again = c.vdev_io_assess.ensures.again yes in (ap second_of c.in-Write.is ∙ again.0, again.1)

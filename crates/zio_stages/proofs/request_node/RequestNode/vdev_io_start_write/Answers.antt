use Rattle.std.proofs.Common.{length, [], ap, refl, subst, sym, ◌∙◌}
use Rattle.zio_stages.specs.NodeIos.{with_one}
use Rattle.zio_stages.specs.RequestCounts.{asked_of, second_of}
use Rattle.std.proofs.lemmas.Result.{IfOk-weaker, on_err_weaker, on_ok_weaker}
use Rattle.zio_stages.specs.RequestNodes.{IsOwnOver}
use Rattle.zio_stages.specs.RequestWrites.{IsReadyWrite}
use Rattle.zio_stages.specs.declared.request_node.Own.{Own}
use Rattle.zio_stages.proofs.PartMoves.{does_map}
use Rattle.zio_stages.proofs.PartNodeLemmas.{starts_map}
use Rattle.zio_stages.proofs.RequestWriteLemmas.{front_in, is_front, node_at, part_at, write_in, writes_only}
use Rattle.zio_stages.proofs.request_node.RequestNode.vdev_io_start_write.Goals as goal

pub unreachable-requires : goal.unreachable-requires
unreachable-requires c = writes_only _ c.args.self.now.own c.requires.ready c.in_default.not-Write

pub vdev_io_start-requires : goal.vdev_io_start-requires
vdev_io_start-requires c =
    record { over = subst (λ (o : Own). IsOwnOver c.args.tops.now o c.args.self.now.family) c.in-Write.is c.requires.over }

pub returns-clause-starts : goal.returns-clause-starts
returns-clause-starts c =
    let r = c.args.self.now in
    let w = c.in-Write.field-0 in
    IfOk-weaker c.vdev_io_start.result _ _
    (λ leaf f. λ t st e h.
    let own = write_in t r st w h c.in-Write.is in
    does_map t st [] _ _
    (λ mid k. starts_map t mid leaf _ _ (λ next at. node_at t r st next w _ c.vdev_io_start.new.family h own at) k)
    (f t (front_in t r st h) own.part (length r.kids.kids.kids) st e (is_front t r st w h own) (part_at t r st w h own)))
    c.vdev_io_start.ensures.starts

pub returns-clause-err : goal.returns-clause-err
returns-clause-err c =
    let r = c.args.self.now in
    let w = c.in-Write.field-0 in
    on_err_weaker c.vdev_io_start.result
    (λ f. λ t st h.
    let own = write_in t r st w h c.in-Write.is in
    does_map t st [] _ _ (λ next at. node_at t r st next w _ c.vdev_io_start.new.family h own at)
    (f t (front_in t r st h) own.part (length r.kids.kids.kids) st (is_front t r st w h own) (part_at t r st w h own)))
    c.vdev_io_start.ensures.err

pub returns-clause-ready : goal.returns-clause-ready
returns-clause-ready c = c.vdev_io_start.ensures.far.ready (subst IsReadyWrite c.in-Write.is c.requires.ready)

pub returns-clause-issued : goal.returns-clause-issued
returns-clause-issued c =
    on_ok_weaker c.vdev_io_start.result (λ f. f (subst IsReadyWrite c.in-Write.is c.requires.ready))
    c.vdev_io_start.ensures.issued

pub returns-clause-count : goal.returns-clause-count
returns-clause-count c =
    IfOk-weaker c.vdev_io_start.result _ _ (λ leaf e. e ∙ ap (λ (own : Own). with_one leaf (asked_of own)) (sym c.in-Write.is)) c.vdev_io_start.ensures.count

pub returns-clause-pass : goal.returns-clause-pass
returns-clause-pass c = c.vdev_io_start.ensures.pass ∙ ap second_of (sym c.in-Write.is)

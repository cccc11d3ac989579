use Rattle.std.proofs.Common.{[]}
use Rattle.std.proofs.lemmas.Result.{IfOk-weaker, on_err_weaker}
use Rattle.zio_stages.specs.PartNodes.{no_front}
use Rattle.zio_stages.proofs.PartMoves.{does_map}
use Rattle.zio_stages.proofs.PartNodeLemmas.{own_front, starts_map}
use Rattle.zio_stages.proofs.part_node.PartNode.vdev_io_start.Goals as goal

pub returns-clause-starts : goal.returns-clause-starts
returns-clause-starts c =
    IfOk-weaker c.vdev_io_start.result _ _
    (λ leaf f. λ t st e h. does_map t st [] _ _ (λ mid k. starts_map t mid leaf _ _ (λ next at. record { part = h.part; at = at }) k) (f t (no_front h.part) h.part 0 st e (own_front t h.part) h.at))
    c.vdev_io_start.ensures.starts

pub returns-clause-err : goal.returns-clause-err
returns-clause-err c =
    on_err_weaker c.vdev_io_start.result
    (λ f. λ t st h. does_map t st [] _ _ (λ next at. record { part = h.part; at = at }) (f t (no_front h.part) h.part 0 st (own_front t h.part) h.at))
    c.vdev_io_start.ensures.err

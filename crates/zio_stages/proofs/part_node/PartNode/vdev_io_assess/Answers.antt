use Rattle.std.proofs.Common.{[]}
use Rattle.zio_stages.specs.PartNodes.{no_front}
use Rattle.zio_stages.proofs.PartMoves.{does_map}
use Rattle.zio_stages.proofs.part_node.PartNode.vdev_io_assess.Goals as goal

pub returns-clause-does : goal.returns-clause-does
returns-clause-does c = λ t st e h. does_map t st [] _ _ (λ next at. record { part = h.part; at = at }) (c.vdev_io_assess.ensures.does t (no_front h.part) h.part st e h.at)

use Rattle.zio_stages.specs.PartNodes.{no_front}
use Rattle.zio_stages.proofs.part_node.PartNode.vdev_io_done.Goals as goal

pub returns-clause-waits : goal.returns-clause-waits
returns-clause-waits c = λ wait t st e seated h. c.vdev_io_done.ensures.waits wait t (no_front h.part) h.part st e seated h.at

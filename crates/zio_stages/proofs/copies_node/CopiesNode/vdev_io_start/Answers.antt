use Rattle.std.proofs.Common.{arith}
use Rattle.zio_stages.proofs.CopiesNodeLemmas.{asked_few}
use Rattle.zio_stages.proofs.copies_node.CopiesNode.vdev_io_start.Goals as goal

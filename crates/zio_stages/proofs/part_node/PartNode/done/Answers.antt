use Rattle.zio_stages.specs.PartNodes.{no_front}
use Rattle.zio_stages.proofs.part_node.PartNode.done.Goals as goal

pub returns-clause-wait : goal.returns-clause-wait
returns-clause-wait c = λ kind is t st seated h. (c.done.ensures.wait kind is t (no_front h.part) h.part c.args.self.now.family st seated h.at).0

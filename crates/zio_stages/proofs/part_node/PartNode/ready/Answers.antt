use Rattle.zio_stages.specs.PartNodes.{no_front}
use Rattle.zio_stages.proofs.PartNodeLemmas.{tells_node}
use Rattle.zio_stages.proofs.part_node.PartNode.ready.Goals as goal

pub returns-clause-wait : goal.returns-clause-wait
returns-clause-wait c = λ kind is t st seated h. (c.ready.ensures.wait kind is t (no_front h.part) h.part c.args.self.now.family st seated h.at).0

pub returns-clause-tell : goal.returns-clause-tell
returns-clause-tell c = λ pointer is t st h. tells_node t c.args.self.now st pointer h (c.ready.ensures.tell pointer is t h.part h.at.asked h.at.slots h.at.work.own)

use Rattle.zio_stages.specs.PartNodes.{no_front}
use Rattle.zio_stages.proofs.PartSeats.{leaf_awaited}
use Rattle.zio_stages.proofs.part_node.PartNode.arrive_leaf.Goals as goal

pub arrive_leaf-requires-clause-awaited : goal.arrive_leaf-requires-clause-awaited
arrive_leaf-requires-clause-awaited c = leaf_awaited c.args.self.now c.args.child c.args.error c.requires.hears

pub returns-clause-heard : goal.returns-clause-heard
returns-clause-heard c = λ t st d a error there h. record { part = h.part; at = c.arrive_leaf.ensures.heard t (no_front h.part) h.part st d a error there h.at }

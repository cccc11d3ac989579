use Rattle.std.proofs.Common.{refl}
use Rattle.zio_stages.specs.PartNodes.{no_front}
use Rattle.zio_stages.proofs.PartSeats.{member_early}
use Rattle.zio_stages.proofs.part_node.PartNode.arrive_ready.Goals as goal

pub arrive_ready-requires-clause-member : goal.arrive_ready-requires-clause-member
arrive_ready-requires-clause-member c = member_early c.args.self.now c.args.child c.requires.hears

pub returns-clause-told : goal.returns-clause-told
returns-clause-told c = λ t st d h there. record { part = h.part; at = c.arrive_ready.ensures.told t (no_front h.part) h.part st d refl h.at there }

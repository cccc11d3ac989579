use Rattle.std.proofs.Common.{refl}
use Rattle.zio_stages.specs.PartNodes.{no_front}
use Rattle.zio_stages.proofs.PartSeats.{member_ended_at}
use Rattle.zio_stages.proofs.part_node.PartNode.arrive_stored.Goals as goal

pub arrive_stored-requires : goal.arrive_stored-requires
arrive_stored-requires c =
    let m = member_ended_at c.args.self.now c.args.child c.args.stored c.requires in
    record { member = (m.told, m.at, m.told_is, λ none. absurd (m.some none)); kept = c.requires.heard.2 }

pub returns-clause-heard : goal.returns-clause-heard
returns-clause-heard c = λ t st d h there. record { part = h.part; at = c.arrive_stored.ensures.heard t (no_front h.part) h.part st d refl h.at there }

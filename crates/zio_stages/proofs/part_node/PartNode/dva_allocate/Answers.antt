use Rattle.zio_stages.specs.PartNodes.{no_front}
use Rattle.zio_stages.proofs.PartMoves.{does_map}
use Rattle.zio_stages.proofs.PartNodeLemmas.{own_front}
use Rattle.zio_stages.proofs.part_node.PartNode.dva_allocate.Goals as goal

pub returns-clause-does : goal.returns-clause-does
returns-clause-does g c =
    let r = c.args.self.now in
    let d = c.dva_allocate.ensures.does in
    (d.0, d.1, λ t st h. does_map t st d.0 _ _ (λ next at. record { part = h.part; at = at }) (d.2 t (no_front h.part) h.part 0 r.family st (own_front t h.part) h.at c.requires.over), d.3)

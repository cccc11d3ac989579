use Rattle.std.proofs.lemmas.Result.{IfOk-weaker}
use Rattle.zio_types.specs.declared.request.ChildKind.TheVariants.{Gang}
use Rattle.zio_stages.specs.PartNodes.{IsFreshPart, no_front}
use Rattle.zio_stages.proofs.PartNodeLemmas.{hands_map, own_front}
use Rattle.zio_stages.proofs.part_node.PartNode.next_member.Goals as goal

pub returns-clause-hands : goal.returns-clause-hands
returns-clause-hands c =
    IfOk-weaker c.member.result _ _
    (λ child f. λ t st h. hands_map t Gang (IsFreshPart t child) _ _ st (λ next at. record { part = h.part; at = at }) (f t (no_front h.part) h.part st (own_front t h.part) h.at))
    c.member.ensures.hands

use Rattle.std.proofs.Common.{◌≡◌, ℕ, ap, refl, subst, sym, ◌∙◌}
use Rattle.std.proofs.lemmas.Result.{IfOk-weaker}
use Rattle.zio_types.specs.declared.request.ChildKind.TheVariants.{Gang}
use Rattle.zio_stages.specs.PartNodes.{IsFreshPart, with_member}
use Rattle.zio_stages.specs.PartWorks.{IsFront}
use Rattle.zio_stages.specs.RequestCounts.{members_of, path_of}
use Rattle.zio_stages.specs.RequestNodes.{IsOwnOver}
use Rattle.zio_stages.specs.RequestWrites.{IsBegunWrite, IsMemberDue}
use Rattle.zio_stages.specs.declared.request_node.Own.{Own}
use Rattle.zio_stages.proofs.PartNodeLemmas.{hands_map}
use Rattle.zio_stages.proofs.RequestWriteLemmas.{front_in, is_front, node_at, part_at, write_in, writes_only}
use Rattle.zio_stages.proofs.request_node.RequestNode.next_member.Goals as goal

pub unreachable-requires : goal.unreachable-requires
unreachable-requires c = writes_only _ c.args.self.now.own c.requires.begun c.in_default.not-Write

pub member-requires-clause-over : goal.member-requires-clause-over
member-requires-clause-over c =
    (c.requires.over.0, subst (λ (o : Own). IsOwnOver c.requires.over.0 o c.args.self.now.family) c.in-Write.is c.requires.over.1)

pub member-requires-clause-due : goal.member-requires-clause-due
member-requires-clause-due c = subst IsMemberDue c.in-Write.is c.requires.due

pub returns-clause-hands : goal.returns-clause-hands
returns-clause-hands c =
    let r = c.args.self.now in
    let w = c.in-Write.field-0 in
    IfOk-weaker c.member.result _ _
    (λ child f. λ t st h.
    let own = write_in t r st w h c.in-Write.is in
    hands_map t Gang (IsFreshPart t child) _ _ st (λ next at. node_at t r st next w _ c.member.new.family h own at)
    (f t (front_in t r st h) own.part st (subst (λ (n : ℕ). IsFront t (front_in t r st h) own.part n) (sym c.len-front.ensures.count) (is_front t r st w h own)) (part_at t r st w h own)))
    c.member.ensures.hands

pub returns-clause-over : goal.returns-clause-over
returns-clause-over c = λ tops h. c.member.ensures.over tops (subst (λ (o : Own). IsOwnOver tops o c.args.self.now.family) c.in-Write.is h)

pub returns-clause-begun : goal.returns-clause-begun
returns-clause-begun c = c.member.ensures.io ∙ subst IsBegunWrite c.in-Write.is c.requires.begun

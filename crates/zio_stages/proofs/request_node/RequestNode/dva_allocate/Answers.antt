use Rattle.std.proofs.Common.{ap, refl, subst, sym, ◌∙◌, length}
use Rattle.zio_stages.specs.RequestCounts.{members_of, path_of}
use Rattle.zio_stages.specs.RequestNodes.{IsOwnOver}
use Rattle.zio_stages.specs.RequestWrites.{IsBegunWrite}
use Rattle.zio_stages.specs.declared.request_node.Own.{Own}
use Rattle.zio_stages.proofs.PartMoves.{does_map}
use Rattle.zio_stages.proofs.RequestWriteLemmas.{front_in, is_front, node_at, part_at, write_in, writes_only}
use Rattle.zio_stages.proofs.request_node.RequestNode.dva_allocate.Goals as goal

pub unreachable-requires : goal.unreachable-requires
unreachable-requires g c = writes_only _ c.args.self.now.own c.requires.begun c.in_default.not-Write

pub returns-clause-does : goal.returns-clause-does
returns-clause-does g c =
    let r = c.args.self.now in
    let w = c.in-Write.field-0 in
    let d = c.dva_allocate.ensures.does in (
      d.0,
      d.1,
      λ t st h.
          let own = write_in t r st w h c.in-Write.is in
          does_map t st d.0 _ _ (λ next at. node_at t r st next w _ r.family h own at)
          (d.2 t (front_in t r st h) own.part (length r.kids.kids.kids) r.family st (is_front t r st w h own) (part_at t r st w h own)
          (subst (λ (o : Own). IsOwnOver (g.S.Services.tops c.args.services.now) o r.family) c.in-Write.is c.requires.over)),
      d.3,
    )

pub returns-clause-over : goal.returns-clause-over
returns-clause-over g c =
    c.dva_allocate.ensures.over c.args.self.now.family (subst (λ (o : Own). IsOwnOver (g.S.Services.tops c.args.services.now) o c.args.self.now.family) c.in-Write.is c.requires.over)

pub returns-clause-begun : goal.returns-clause-begun
returns-clause-begun g c = c.dva_allocate.ensures.io ∙ subst IsBegunWrite c.in-Write.is c.requires.begun

pub returns-clause-members : goal.returns-clause-members
returns-clause-members g c = c.dva_allocate.ensures.members ∙ ap members_of (sym c.in-Write.is)

pub returns-clause-path : goal.returns-clause-path
returns-clause-path g c = c.dva_allocate.ensures.path ∙ ap path_of (sym c.in-Write.is)

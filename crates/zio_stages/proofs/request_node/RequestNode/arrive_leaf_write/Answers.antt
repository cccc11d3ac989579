use Rattle.std.proofs.Common.{[], Option, ap, length, refl, subst, sym, ◌∙◌}
use Rattle.zio_stages.specs.RequestCounts.{asked_of, members_of, path_of, second_of}
use Rattle.zio_stages.specs.declared.part.PartOwn.{PartOwn}
use Rattle.std.specs.Prelude.{IfSome}
use Rattle.zio_stages.specs.NodeIos.{IsWriteDue}
use Rattle.zio_stages.specs.RequestNodes.{IsOwnOver}
use Rattle.zio_stages.specs.declared.request_node.Own.{Own}
use Rattle.zio_stages.specs.declared.write_io.WriteIo.{WriteIo}
use Rattle.zio_stages.proofs.PartFar.{far_work}
use Rattle.zio_stages.proofs.RequestMembers.{keeps_write, own_leaf}
use Rattle.zio_stages.proofs.RequestWriteLemmas.{front_in, node_at, part_at, write_in}
use Rattle.zio_stages.proofs.request_node.RequestNode.arrive_leaf_write.Goals as goal

pub arrive_leaf-requires-clause-over : goal.arrive_leaf-requires-clause-over
arrive_leaf-requires-clause-over c =
    (c.requires.over.0, subst (λ (o : Own). IsOwnOver c.requires.over.0 o c.args.self.now.family) c.in-Write.is c.requires.over.1)

pub arrive_leaf-requires-clause-awaited : goal.arrive_leaf-requires-clause-awaited
arrive_leaf-requires-clause-awaited c =
    own_leaf c.args.self.now c.in-Write.field-0 c.args.child c.args.error c.in-Write.is c.requires.hears

pub returns-clause-heard : goal.returns-clause-heard
returns-clause-heard c = λ t st d a error there h.
    let r = c.args.self.now in
    let w = c.in-Write.field-0 in
    let own = write_in t r st w h c.in-Write.is in
    node_at t r st _ w _ c.arrive_leaf.new.family h own
    (c.arrive_leaf.ensures.heard t (front_in t r st h) own.part st d a error there (part_at t r st w h own))

pub returns-clause-over : goal.returns-clause-over
returns-clause-over c = λ tops over.
    c.arrive_leaf.ensures.over tops (subst (λ (o : Own). IsOwnOver tops o c.args.self.now.family) c.in-Write.is over)

pub returns-clause-keeps : goal.returns-clause-keeps
returns-clause-keeps c =
    let w = c.in-Write.field-0 in
    keeps_write c.args.self.now.own w _ c.in-Write.is (far_work w.work.own c.arrive_leaf.new.self.own c.arrive_leaf.ensures.own)
    (λ none. absurd (c.arrive_leaf.ensures.out [] (subst (λ (io : Option WriteIo). IfSome io (IsWriteDue [])) (sym none) tt)))
    (λ tops due. absurd (c.arrive_leaf.ensures.out tops due))

pub returns-clause-same : goal.returns-clause-same
returns-clause-same c = record {
  asked = c.arrive_leaf.ensures.count ∙ ap asked_of (sym c.in-Write.is);
  second = c.arrive_leaf.ensures.pass ∙ ap second_of (sym c.in-Write.is);
  many = ap (λ (own : PartOwn). length own.part.members) c.arrive_leaf.ensures.own ∙ ap (λ (own : Own). length (members_of own)) (sym c.in-Write.is);
  path = ap (λ (own : PartOwn). own.part.path) c.arrive_leaf.ensures.own ∙ ap path_of (sym c.in-Write.is);
}

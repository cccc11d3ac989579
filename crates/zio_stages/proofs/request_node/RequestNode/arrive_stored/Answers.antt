use Rattle.std.proofs.Common.{ℕ, ap, length, refl, subst, sym, ◌∙◌}
use Rattle.zio_stages.specs.PartWorks.{IsMemberAt, IsMoreDue, asked_by, is_second}
use Rattle.zio_stages.specs.RequestCounts.{IsMoreDueWrite, asked_of, members_of, path_of, second_of}
use Rattle.zio_stages.specs.RequestNodes.{IsOwnOver}
use Rattle.zio_stages.specs.declared.request_node.Own.{Own}
use Rattle.zio_stages.proofs.RequestMembers.{keeps_same, own_ended}
use Rattle.zio_stages.proofs.RequestWriteLemmas.{front_in, many_in, node_at, part_at, write_in}
use Rattle.zio_stages.proofs.request_node.RequestNode.arrive_stored.Goals as goal

pub arrive_stored-requires : goal.arrive_stored-requires
arrive_stored-requires c =
    let m = own_ended c.args.self.now c.in-Write.field-0 c.args.child c.args.stored c.in-Write.is c.requires.hears in
    let P = λ (n : ℕ). IsMemberAt c.in-Write.field-0.work c.args.self.now.family n c.args.child m.told in
    record { member = (m.told, subst P (sym c.len-front.ensures.count) m.at, m.told_is, λ none. absurd (m.some none)); kept = c.requires.hears.heard.2 }

pub returns-clause-heard : goal.returns-clause-heard
returns-clause-heard c = λ t st d h there.
    let r = c.args.self.now in
    let w = c.in-Write.field-0 in
    let own = write_in t r st w h c.in-Write.is in
    node_at t r st _ w _ c.arrive_stored.new.family h own
    (c.arrive_stored.ensures.heard t (front_in t r st h) own.part st d (many_in t r st h own.told ∙ sym c.len-front.ensures.count) (part_at t r st w h own) there)

pub returns-clause-over : goal.returns-clause-over
returns-clause-over c = λ tops over.
    c.arrive_stored.ensures.over tops (subst (λ (o : Own). IsOwnOver tops o c.args.self.now.family) c.in-Write.is over)

pub returns-clause-keeps : goal.returns-clause-keeps
returns-clause-keeps c =
    keeps_same c.args.self.now.own c.in-Write.field-0 _ c.in-Write.is c.arrive_stored.ensures.far c.arrive_stored.ensures.io

pub returns-clause-same : goal.returns-clause-same
returns-clause-same c = record {
  asked = ap asked_by c.arrive_stored.ensures.io ∙ ap asked_of (sym c.in-Write.is);
  second = ap is_second c.arrive_stored.ensures.io ∙ ap second_of (sym c.in-Write.is);
  many = c.arrive_stored.ensures.far.many ∙ ap (λ (own : Own). length (members_of own)) (sym c.in-Write.is);
  path = c.arrive_stored.ensures.far.path ∙ ap path_of (sym c.in-Write.is);
}

pub returns-clause-more : goal.returns-clause-more
returns-clause-more c = λ tops h.
    subst (IsMoreDueWrite tops) (sym c.in-Write.is) (subst (IsMoreDue tops) c.arrive_stored.ensures.io h)

use Rattle.std.proofs.Common.{◌∙◌, ◌++◌, ◌∷◌, [], sym, ap, length}
use Rattle.zio_stages.specs.NodeChildren.{new_child, seat_of}
use Rattle.zio_stages.proofs.FamilyLemmas.{added, length_children, told_added}
use Rattle.zio_stages.proofs.family.Family.add.Goals as goal

pub invariant_of-self-in-Ok : goal.invariant_of-self-in-Ok
invariant_of-self-in-Ok c =
    let f = c.self.inside in (
      (added f.brood f.sittings.items c.args.kind c.args.label c.args.seat c.add.new.self c.push.new.self.items c.self.invariant.0 c.in-Ok.ensures.ok c.in_ok-push.ensures.items).0,
      told_added f.brood c.add.new.self c.args.kind c.args.label c.self.invariant.1 c.in-Ok.ensures.ok,
    )

pub returns-in-Ok-clause-ok : goal.returns-in-Ok-clause-ok
returns-in-Ok-clause-ok c =
    let f = c.self.inside in
    (added f.brood f.sittings.items c.args.kind c.args.label c.args.seat c.add.new.self c.push.new.self.items c.self.invariant.0 c.in-Ok.ensures.ok c.in_ok-push.ensures.items).1
    ∙ ap (λ xs. xs ++ new_child (seat_of c.args.seat) c.args.kind ∷ []) c.self.view_is

pub returns-in-Ok-clause-number : goal.returns-in-Ok-clause-number
returns-in-Ok-clause-number c =
    let f = c.self.inside in
    c.in-Ok.ensures.number ∙ sym (length_children f.brood f.sittings.items c.self.invariant.0) ∙ ap length c.self.view_is

use Rattle.std.proofs.Common.{◌≡◌, Some, ap, arith, subst, sym, ◌∙◌}
use Rattle.zio_stages.specs.Sealed.{Outcome}
use Rattle.zio_exchange.specs.declared.outcome.Outcome.TheVariants.{Again, Finished}
use Rattle.zio_staged.specs.Stages.{Hears, HearsSome, OutcomeIn}
use Rattle.zio_nodes.specs.Nodes.{nodes}
use Rattle.zio_nodes.specs.TreeAts.{IsTreeOver}
use Rattle.zio_nodes.specs.declared.node.Node.{Node}
use Rattle.zio_nodes.specs.declared.node.Node.TheVariants.{Request}
use Rattle.zio_nodes.proofs.OwnHears.{other_kind}
use Rattle.zio_nodes.proofs.WriteHears.{own_outcome}
use Rattle.zio_nodes.proofs.request_at.RequestAt.arrive.Goals as goal

pub arrive_finished-requires : goal.arrive_finished-requires
arrive_finished-requires c = (
  c.args.tops.now,
  subst (λ (o : Outcome). HearsSome {N = Node} nodes c.args.tops.now (Request c.args.self.now) c.args.child o) c.in-Finished.is c.requires.awaited,
)

pub arrive_again-requires : goal.arrive_again-requires
arrive_again-requires c = (
  c.args.tops.now,
  subst (λ (o : Outcome). HearsSome {N = Node} nodes c.args.tops.now (Request c.args.self.now) c.args.child o) c.in-Again.is c.requires.awaited,
)

pub arrive_written-requires : goal.arrive_written-requires
arrive_written-requires c = record {
  over = c.requires.over;
  awaited = c.requires.awaited;
  own = own_outcome c.args.outcome c.in_default.not-Finished c.in_default.not-Again;
  kind = sym c.kind.ensures ∙ c.in-Write.is;
}

pub arrive_own-requires : goal.arrive_own-requires
arrive_own-requires c = record {
  over = c.requires.over;
  awaited = c.requires.awaited;
  own = own_outcome c.args.outcome c.in_default.not-Finished c.in_default.not-Again;
  kind = other_kind c.kind.result _ c.in-Null.is c.kind.ensures;
}

pub returns-in-Finished-clause-heard : goal.returns-in-Finished-clause-heard
returns-in-Finished-clause-heard c = λ t st d op v h.
    c.arrive_finished.ensures.heard c.args.tops.now t st d op v
    (subst (λ (o : Outcome). Hears {N = Node} nodes c.args.tops.now t (Request c.args.self.now) st c.args.child d op o v) c.in-Finished.is h)

pub returns-in-Finished-clause-kept : goal.returns-in-Finished-clause-kept
returns-in-Finished-clause-kept c = λ f e.
    let both : Finished c.in-Finished.finished ≡ Finished f = sym c.in-Finished.is ∙ e in
    let same : c.in-Finished.finished ≡ f = cc in
    ap (λ x. Some x) same

pub returns-in-Finished-clause-over_still : goal.returns-in-Finished-clause-over_still
returns-in-Finished-clause-over_still c = c.arrive_finished.ensures.over c.args.tops.now c.requires.over

pub returns-in-Finished-clause-left : goal.returns-in-Finished-clause-left
returns-in-Finished-clause-left c = omega (arith, c.arrive_finished.ensures.left)

pub returns-in-Again-clause-heard : goal.returns-in-Again-clause-heard
returns-in-Again-clause-heard c = λ t st d op v h.
    c.arrive_again.ensures.heard c.args.tops.now t st d op v
    (subst (λ (o : Outcome). Hears {N = Node} nodes c.args.tops.now t (Request c.args.self.now) st c.args.child d op o v) c.in-Again.is h)

pub returns-in-Again-clause-kept : goal.returns-in-Again-clause-kept
returns-in-Again-clause-kept c = λ f e.
    let both : Again c.in-Again.whole c.in-Again.bits c.in-Again.pointer ≡ Finished f = sym c.in-Again.is ∙ e in
    absurd (cc)

pub returns-in-Again-clause-over_still : goal.returns-in-Again-clause-over_still
returns-in-Again-clause-over_still c =
    let inside : IsTreeOver c.args.tops.now c.in-Again.whole = subst (OutcomeIn (IsTreeOver c.args.tops.now)) c.in-Again.is c.requires.inside in
    c.arrive_again.ensures.over c.args.tops.now inside c.requires.over

pub returns-in-Again-clause-left : goal.returns-in-Again-clause-left
returns-in-Again-clause-left c = omega (arith, c.arrive_again.ensures.left)

pub returns-in-Write-clause-kept : goal.returns-in-Write-clause-kept
returns-in-Write-clause-kept c = λ f e. absurd (c.in_default.not-Finished f e)

pub returns-in-Null-clause-kept : goal.returns-in-Null-clause-kept
returns-in-Null-clause-kept c = λ f e. absurd (c.in_default.not-Finished f e)

use Rattle.std.proofs.Common.{inl, inr, sym, ◌∙◌}
use Rattle.zio_nodes.proofs.WriteHears.{hears_own, null_idle}
use Rattle.zio_nodes.proofs.request_at.RequestAt.arrive_own.Goals as goal

pub arrive_read-requires-clause-kind : goal.arrive_read-requires-clause-kind
arrive_read-requires-clause-kind c = sym c.kind.ensures ∙ c.in-Read.is

pub arrive_free-requires : goal.arrive_free-requires
arrive_free-requires c = record {
  over = (c.args.tops.now, c.requires.over);
  awaited = (c.args.tops.now, c.requires.awaited);
  own = c.requires.own;
  kind = sym c.kind.ensures ∙ c.in-Free.is;
}

pub arrive_claim-requires-clause-kind : goal.arrive_claim-requires-clause-kind
arrive_claim-requires-clause-kind c = sym c.kind.ensures ∙ c.in-Claim.is

pub unreachable-requires : goal.unreachable-requires
unreachable-requires c =
    let r = c.args.self.now.node in
    let k = hears_own c.args.tops.now c.args.self.now c.args.child c.args.outcome c.requires.own c.requires.awaited in
    elim c.in-Null.is [
      | inl null ↦ null_idle k.terms r k.stack k.is (sym c.kind.ensures ∙ null) (c.other_children_show_own_work.ensures.value r c.args.child k)
      | inr write ↦ c.requires.kind (sym c.kind.ensures ∙ write)
    ]

pub returns-in-Free-clause-heard : goal.returns-in-Free-clause-heard
returns-in-Free-clause-heard c = c.arrive_free.ensures.heard c.args.tops.now

pub returns-in-Free-clause-over_still : goal.returns-in-Free-clause-over_still
returns-in-Free-clause-over_still c = c.arrive_free.ensures.over c.args.tops.now c.requires.over

use Rattle.std.proofs.Common.{sym, ◌∙◌}
use Rattle.zio_counts.proofs.BroodLemmas.{firsts_after, firsts_stay, none_before}
use Rattle.zio_counts.proofs.firsts.Firsts.pass.Goals as goal

pub first_missing-next-requires-clause-before : goal.first_missing-next-requires-clause-before
first_missing-next-requires-clause-before g c =
    none_before c.args.kind c.args.phase c.args.at c.args.self.now c.args.children.now c.requires (sym c.at.ensures ∙ c.if-at.true)

pub returns-then-at : goal.returns-then-at
returns-then-at g c =
    c.set.ensures
    ∙ firsts_after c.args.kind c.args.phase c.args.at c.first_missing-next.result c.args.self.now c.args.children.now c.requires c.first_missing-next.ensures

pub returns-else-at : goal.returns-else-at
returns-else-at g c =
    firsts_stay c.args.kind c.args.phase c.args.at c.args.self.now c.args.children.now c.requires (λ e. c.if-at.false (c.at.ensures ∙ e))

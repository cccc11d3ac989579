use Rattle.std.proofs.Common.{ap, subst, sym, ◌∙◌}
use Rattle.zio_types.specs.Choices.{Choice}
use Rattle.zio_audit.specs.Names.{name_of}
use Rattle.zio_audit.proofs.NameLemmas.{IsIndexed, all_indexed, indexed_none, one_more, stood_before}
use Rattle.zio_audit.proofs.index.index_of.Goals as goal

pub loop-at-init : goal.loop-at-init
loop-at-init c = subst (λ es. IsIndexed es c.args.entries.now 0) (sym c.new-index.ensures.empty) (indexed_none c.args.entries.now)

pub loop-at-preserved : goal.loop-at-preserved
loop-at-preserved c =
    one_more c.loop-at.index.entries c.insert.new.self.entries c.args.entries.now c.loop-at.at c.index-entries-at.result c.name_of.result c.in_ok-earlier.earlier
    (record {
      below = c.loop-at-test.true;
      here = c.index-entries-at.is;
      named = c.name_of.ensures ∙ ap (λ (e : Choice). name_of e.asked.key) c.entry.view_is;
    })
    c.loop-at.invariant c.in_ok-earlier.ensures.old (sym c.is_some.ensures ∙ c.if-is_some.false) c.in_ok-earlier.ensures.updates.0

pub returns-then-is_some : goal.returns-then-is_some
returns-then-is_some c =
    stood_before c.loop-at.index.entries c.args.entries.now c.loop-at.at c.index-entries-at.result c.name_of.result c.in_ok-earlier.earlier
    (record {
      below = c.loop-at-test.true;
      here = c.index-entries-at.is;
      named = c.name_of.ensures ∙ ap (λ (e : Choice). name_of e.asked.key) c.entry.view_is;
    })
    c.loop-at.invariant c.in_ok-earlier.ensures.old (sym c.is_some.ensures ∙ c.if-is_some.true)

pub returns : goal.returns
returns c = all_indexed c.loop-at.index.entries c.args.entries.now c.loop-at.at c.loop-at-test.false c.loop-at.invariant

use Rattle.std.proofs.Common.{◌∙◌, sym, ap, subst, refl, Some}
use Rattle.zio_exchange.specs.declared.waiting.UnfinishedRequest.{UnfinishedRequest}
use Rattle.zio_exchange.specs.Wholes.{IsWhole, joined, root_of}
use Rattle.zio_exchange.proofs.WholeLemmas.{root_last, whole_over}
use Rattle.zio_exchange.proofs.whole.Whole.root.Goals as goal

pub returns-clause-root : goal.returns-clause-root
returns-clause-root c =
    let w = c.self.inside in
    ap root_of (sym c.self.view_is) ∙ root_last (joined w.children.items) w.root.value
    ∙ ap (λ (r : UnfinishedRequest). Some r) (sym c.deref.ensures)

pub returns-clause-whole : goal.returns-clause-whole
returns-clause-whole c =
    let w = c.self.inside in
    subst IsWhole c.self.view_is (whole_over w.children.items w.root.value _ c.self.invariant refl)

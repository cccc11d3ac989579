use Rattle.std.proofs.Common.{◌≡◌, ◌∙◌, ◌++◌, ◌∷◌, [], List, refl, ap, subst, length}
use Rattle.zio_gang.specs.Attempts.{Pending}
use Rattle.zio_exchange.specs.declared.waiting.UnfinishedRequest.{UnfinishedRequest}
use Rattle.zio_exchange.specs.Waits.{pending_of}
use Rattle.zio_exchange.specs.Wholes.{IsTreeOf, counted, joined}
use Rattle.zio_exchange.proofs.WholeLemmas.{tree_over}
use Rattle.zio_exchange.proofs.whole.Whole.grown.Goals as goal

pub returns-clause-tree : goal.returns-clause-tree
returns-clause-tree c = λ forest are.
    let children = c.args.children in
    let count : c.len.result ≡ length children.items = c.len.ensures ∙ children.ok.0 in
    let w : UnfinishedRequest = counted c.deref_mut.result.now c.len.result in
    let all : List UnfinishedRequest = joined children.items ++ w ∷ [] in
    subst (λ (p : Pending). IsTreeOf all p forest) (ap pending_of c.deref_mut.ensures.value)
    (tree_over children.items forest w all are count refl)

use Rattle.std.proofs.Common.{◌∷◌, ◌∙◌, [], get_or, take, refl, sym, subst}
use Rattle.std.specs.List.{AllByRecursion}
use Rattle.std.proofs.lemmas.List.{take_more}
use Rattle.zio_cksum.proofs.AllLemmas.{all_append}
use Rattle.zio_exchange.specs.Wholes.{IsWhole}
use Rattle.zio_exchange.proofs.WholeLemmas.{whole_over}
use Rattle.zio_exchange.proofs.whole.are_whole.Goals as goal

pub loop-tree-preserved : goal.loop-tree-preserved
loop-tree-preserved c =
    let trees = c.args.trees.now in
    let i = c.loop-tree.tree-index in
    let w = c.tree.inside in
    let this : IsWhole (get_or trees i c.tree-item.result) =
    subst IsWhole (c.tree.view_is ∙ c.tree-item.is) (whole_over w.children.items w.root.value _ c.tree.invariant refl) in
    subst (AllByRecursion IsWhole) (sym (take_more trees i c.tree-item.result c.loop-tree-test.true))
    (all_append IsWhole (take i trees) (get_or trees i c.tree-item.result ∷ []) c.loop-tree.invariant (this, tt))

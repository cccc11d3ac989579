use Rattle.std.proofs.Common.{rules, ℕ, List, ap, subst, sym, ◌∙◌}
use Rattle.std.proofs.lemmas.Result.{IfOk-weaker}
use Rattle.std.proofs.lemmas.List.Sorted.{IsNonDecreasingBy-from_sort, answers_always}
use Rattle.std.specs.List.{IsDistinct}
use Rattle.std.specs.List.Sorted.{IsNonDecreasingBy}
use Rattle.std.specs.Prelude.{bytes_eq}
use Rattle.zio_gang.specs.declared.tree.Tree.{Tree}
use Rattle.zio_course.specs.Names.{byte_order, named_in}
use Rattle.zio_course.proofs.NameLemmas.{named_is, names_in, once_by_bytes}
use Rattle.zio_course.proofs.bound.Bound.into_blocks.Goals as goal

pub returns-clause-blocks : goal.returns-clause-blocks
returns-clause-blocks c =
    let old : List (List ℕ × Tree) = c.self.inside.trees.entries in
    let new : List (List ℕ × Tree) = c.sort_by_key.new.self.entries in
    IfOk-weaker c.blocks_of.result _ _
    (λ blocks is name. ap (λ (es : List (List ℕ × Tree)). named_in es name) is
    ∙ (sym (named_is name new) ∙ (c.sort_by_key.ensures.reordered.2 name
    ∙ (named_is name old ∙ ap (λ (es : List (List ℕ × Tree)). named_in es name) c.self.view_is))))
    c.blocks_of.ensures

pub returns-clause-once : goal.returns-clause-once
returns-clause-once c =
    IfOk-weaker c.blocks_of.result _ _
    (λ blocks is. subst (IsDistinct bytes_eq) (sym (names_in blocks.items c.sort_by_key.new.self.entries is))
    (once_by_bytes _ c.sort_by_key.ensures.unique))
    c.blocks_of.ensures

pub returns-clause-order : goal.returns-clause-order
returns-clause-order c =
    let key : List ℕ × Tree → ℕ = λ e. byte_order e.0 in
    let new : List (List ℕ × Tree) = c.sort_by_key.new.self.entries in
    let sorted : IsNonDecreasingBy key new =
    IsNonDecreasingBy-from_sort key new (c.in_ok-sort_by_key.ensures.sorted key (answers_always _ _ _ (λ f a r g h. search rules))) in
    IfOk-weaker c.blocks_of.result _ _
    (λ blocks is. subst (IsNonDecreasingBy key) (sym is) sorted)
    c.blocks_of.ensures

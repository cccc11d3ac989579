use Rattle.std.proofs.Common.{◌∙◌, refl}
use Rattle.zio_graph.proofs.Wrapped.{wrapped_all, wrapped_begins, wrapped_step}
use Rattle.zio_graph.proofs.tree.trees_of.Goals as goal

pub loop-whole-init : goal.loop-whole-init
loop-whole-init c =
    wrapped_begins _ _ _ c.requires (c.into_iter-whole-iterator.ensures.into_iter_gives ∙ c.into_rest-whole-items.ensures)
    c.new-trees.ensures.items

pub loop-whole-preserved : goal.loop-whole-preserved
loop-whole-preserved c =
    wrapped_step _ _ _ _ _ _ _ c.loop-whole.invariant c.in-Some.ensures.steps refl c.in_ok-push.ensures.items

pub returns : goal.returns
returns c = wrapped_all _ _ _ _ c.loop-whole.invariant c.in-None.ensures.steps.0 c.from_vec.ensures

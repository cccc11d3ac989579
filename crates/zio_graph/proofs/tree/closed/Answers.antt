use Rattle.std.proofs.Common.{◌∙◌, ◌<◌, arith, length, refl, vec_capacity}
use Rattle.zio_graph.proofs.Wrapped.{back_begins, back_fits, back_step, wrapped_all}
use Rattle.zio_graph.proofs.tree.closed.Goals as goal

pub loop-whole-init : goal.loop-whole-init
loop-whole-init c =
    back_begins _ _ _ _ c.requires.each (c.into_iter-whole-iterator.ensures.into_iter_gives ∙ c.into_rest-whole-items.ensures)
    c.requires.none c.requires.room

pub push_reserved-requires : goal.push_reserved-requires
push_reserved-requires c =
    let fits : length c.loop-whole.room.items < vec_capacity c.loop-whole.room =
    back_fits _ _ _ _ _ _ c.loop-whole.invariant c.in-Some.ensures.steps in
    omega (arith, fits, c.loop-whole.room.ok.0)

pub loop-whole-preserved : goal.loop-whole-preserved
loop-whole-preserved c =
    back_step _ _ _ _ _ _ _ _ _ c.loop-whole.invariant c.in-Some.ensures.steps refl c.push_reserved.ensures.items
    c.push_reserved.ensures.capacity

pub returns : goal.returns
returns c = wrapped_all _ _ _ _ c.loop-whole.invariant.wrapped c.in-None.ensures.steps.0 c.from_vec.ensures

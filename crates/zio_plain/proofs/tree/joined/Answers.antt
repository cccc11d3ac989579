use Rattle.std.proofs.Common.{◌∙◌, ◌≤◌, sym, arith}
use Rattle.zio_plain.proofs.PostLemmas.{joined_begins, joined_ends, joined_fits, joined_room, joined_step}
use Rattle.zio_plain.proofs.tree.joined.Goals as goal

pub loop-tree-init : goal.loop-tree-init
loop-tree-init c = record {
  joined = joined_begins _ _ _ _ (sym (c.into_iter-tree-iterator.ensures.into_iter_gives ∙ c.into_rest-tree-items.ensures)) c.requires.none;
  room = c.requires.room;
}

pub put_reserved-requires : goal.put_reserved-requires
put_reserved-requires c =
    joined_fits _ _ _ _ _ _ _ _ _ c.loop-tree.invariant.joined c.loop-tree.invariant.room c.in-Some.ensures.steps c.tree.view_is c.into_vec.ensures

pub loop-tree-preserved : goal.loop-tree-preserved
loop-tree-preserved c = record {
  joined = joined_step _ _ _ _ _ _ _ _ _ c.loop-tree.invariant.joined c.in-Some.ensures.steps c.tree.view_is c.tree.invariant c.into_vec.ensures c.put_reserved.ensures.items;
  room = omega (arith, c.loop-tree.invariant.room, c.put_reserved.ensures.capacity);
}

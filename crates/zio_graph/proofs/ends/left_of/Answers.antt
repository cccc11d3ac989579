use Rattle.std.proofs.Common.{sym, subst, ◌∙◌}
use Rattle.std.specs.List.{AllByRecursion}
use Rattle.zio_exchange.specs.Wholes.{IsWhole}
use Rattle.zio_graph.specs.Ends.{left_by}
use Rattle.zio_graph.proofs.UsedUp.{flat_begins, flat_ends, flat_step}
use Rattle.zio_graph.proofs.ends.left_of.Goals as goal

pub loop-tree-init : goal.loop-tree-init
loop-tree-init c = (
  flat_begins left_by _ _ _ (c.into_iter-tree-iterator.ensures.into_iter_gives ∙
      (c.into_rest-tree-items.ensures ∙ c.from_vec-states.ensures)) c.new-left.ensures.items,
  subst (AllByRecursion IsWhole) (sym c.new-left.ensures.items) tt,
)

pub loop-tree-preserved : goal.loop-tree-preserved
loop-tree-preserved c = (
  flat_step left_by c.args.trees.items c.loop-tree.tree-iterator c.next.new.self c.loop-tree.left.items c.note_left.new.left.items
      c.in-Some.tree c.loop-tree.invariant.0 c.in-Some.ensures.steps c.in_ok-note_left.ensures.left,
  c.in_ok-note_left.ensures.whole c.loop-tree.invariant.1,
)

pub returns-clause-left : goal.returns-clause-left
returns-clause-left c =
    c.from_vec.ensures
    ∙ flat_ends left_by c.args.trees.items c.loop-tree.tree-iterator c.loop-tree.left.items c.loop-tree.invariant.0
    c.in-None.ensures.steps.0

pub returns-clause-whole : goal.returns-clause-whole
returns-clause-whole c = subst (AllByRecursion IsWhole) (sym c.from_vec.ensures) c.loop-tree.invariant.1

use Rattle.std.proofs.Common.{◌∙◌, List, subst, sym}
use Rattle.zio_gang.specs.Attempts.{Pending}
use Rattle.zio_course.specs.Runners.{IsNewTree, fresh}
use Rattle.zio_graph.proofs.NewTrees.{new_list, new_tree, over_rises}
use Rattle.zio_graph.proofs.tree.tree_over.Goals as goal

pub over-requires : goal.over-requires
over-requires c =
    let same = c.in-Ok.ensures.same ∙ c.into_vec-room.ensures in
    record { rising = over_rises c.args.children c.in-Ok.wholes same c.in-Ok.ensures.each c.requires.whole.rising }

pub invariant_of-result : goal.invariant_of-result
invariant_of-result c =
    let same = c.in-Ok.ensures.same ∙ c.into_vec-room.ensures in
    new_tree c.args.request.now c.args.birth c.args.block c.in-Ok.wholes c.in-Ok-over.whole
    (subst (λ (trees : List (List Pending)). IsNewTree c.args.request.now c.args.birth c.args.block trees) (sym same) c.requires.whole)
    c.in-Ok.ensures.each c.requires.fits c.block_has_three_places.ensures c.ranges.birth.fits c.in-Ok-over.ensures.tree

pub returns-in-Ok-over-clause-made : goal.returns-in-Ok-over-clause-made
returns-in-Ok-over-clause-made c =
    let same = c.in-Ok.ensures.same ∙ c.into_vec-room.ensures in
    new_list (fresh c.args.request.now c.args.birth c.args.block) c.args.children c.in-Ok.wholes c.in-Ok-over.whole same c.in-Ok-over.ensures.list

use Rattle.std.proofs.Common.{◌++◌, ap, ◌∙◌}
use Rattle.zio_types.specs.Errors.{worst_of}
use Rattle.zio_gang.specs.Trees.{Walk, free_tree, walk_kept}
use Rattle.zio_disks.proofs.DiskLemmas.{handles_ok}
use Rattle.zio_disks.proofs.trees.free_tree.Goals as goal

pub returns-clause-told : goal.returns-clause-told
unfolding free_tree
returns-clause-told g c images tell =
    let w : Walk = walk_kept c.args.setting.now c.args.tree.now images in
    let told = c.in_ok-walk_tree.ensures.told images tell in
    (c.worst_of.ensures ∙ ap worst_of (c.as_slice.ensures ∙ told.0 ∙ ap (λ es. es ++ w.errors) c.new-errors.ensures), told.2)

pub returns-clause-handled : goal.returns-clause-handled
returns-clause-handled g c = handles_ok _ c.in_ok-walk_tree.ensures.handled

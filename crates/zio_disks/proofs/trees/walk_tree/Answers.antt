use Rattle.std.proofs.lemmas.Result.{on_ok_weaker}
use Rattle.zio_cksum.proofs.AllLemmas.{all_contained}
use Rattle.zio_gang.specs.Trees.{tree_pointers}
use Rattle.zio_disks.proofs.SizeLemmas.{whole_kept}
use Rattle.zio_disks.proofs.trees.walk_tree.Goals as goal

pub walk_pointer-requires-clause-listed : goal.walk_pointer-requires-clause-listed
walk_pointer-requires-clause-listed g c = (all_contained (tree_pointers c.args.tree.now)).0

pub returns-clause-sized : goal.returns-clause-sized
returns-clause-sized g c = on_ok_weaker c.walk_pointer.result (λ h whole. h (whole_kept c.args.tree.now whole)) c.walk_pointer.ensures.sized

use Rattle.zio_gang.specs.Trees.{sizes_of}
use Rattle.zio_disks.proofs.ClaimLemmas.{adds_all, tree_placed}
use Rattle.zio_disks.proofs.claim.claim_pointer.Goals as goal

pub returns-then-is_empty-clause-whole : goal.returns-then-is_empty-clause-whole
returns-then-is_empty-clause-whole g c =
    let read = adds_all _ _ _ _ _ c.new-errors.ensures c.new-heads.ensures (c.is_empty.ensures.0 c.if-is_empty.true) c.in_ok-visit_pointer.ensures.added in
    read.under

pub returns-then-is_empty-clause-placed : goal.returns-then-is_empty-clause-placed
returns-then-is_empty-clause-placed g c =
    tree_placed (sizes_of c.args.setting.now.tops) c.args.bp c.visit_pointer.new.heads _ c.requires.valid
    (adds_all _ _ _ _ _ c.new-errors.ensures c.new-heads.ensures (c.is_empty.ensures.0 c.if-is_empty.true) c.in_ok-visit_pointer.ensures.added)

use Rattle.std.proofs.Common.{◌≡◌, Some, subst, sym, ◌∙◌}
use Rattle.std.proofs.lemmas.Result.{IfOk-weaker}
use Rattle.zio_blkptr.specs.Pointers.{pointer_of}
use Rattle.zio_cksum.specs.Images.{Images}
use Rattle.zio_gang.specs.declared.tree.Tree.{Tree}
use Rattle.zio_gang.specs.Trees.{sizes_of}
use Rattle.zio_disks.specs.Disks.{Tell}
use Rattle.zio_disks.specs.Trees.{IsPlacedTree}
use Rattle.zio_disks.specs.Whole.{IsFittingTree, IsWholeTree}
use Rattle.zio_disks.proofs.DiskLemmas.{handles_after}
use Rattle.zio_blocks.proofs.ClaimLemmas.{follows, tree_keeps}
use Rattle.zio_blocks.proofs.claim.claim_block.Goals as goal

pub returns-in_err-tree-clause-none : goal.returns-in_err-tree-clause-none
returns-in_err-tree-clause-none g c none = absurd (let f = c.in_err-tree.ensures.none none in cc)

pub returns-in-Ok-clause-told : goal.returns-in-Ok-clause-told
returns-in-Ok-clause-told g c =
    IfOk-weaker c.take_places.result _ _
    (λ found h (images : Images) (tell : Tell g.D.Disk.image c.args.disks.now images).
    (let walked = c.in_ok-tree.ensures.told images tell in
    let f = follows c.args.setting.now (g.C.Chooser.used c.args.chooser.now) c.args.pointer.now images in
    (h ∙ sym (f.good c.in-Ok.tree (sym c.in-Ok.is ∙ walked.0)), subst (Tell g.D.Disk.image c.claim_walk.new.disks) (sym f.images) walked.1)))
    c.take_places.ensures.told

pub returns-in-Ok-clause-claimed : goal.returns-in-Ok-clause-claimed
returns-in-Ok-clause-claimed g c = c.take_places.ensures.claimed

pub returns-in-Ok-clause-pointer : goal.returns-in-Ok-clause-pointer
returns-in-Ok-clause-pointer g c =
    tree_keeps (λ (t : Tree). pointer_of c.args.pointer.now ≡ Some t.bp) c.in_ok-tree.field-0 c.in-Ok.tree c.take_places.result c.in-Ok.is c.in_ok-tree.ensures.pointer c.take_places.ensures.same

pub returns-in-Ok-clause-none : goal.returns-in-Ok-clause-none
returns-in-Ok-clause-none g c none = absurd (let f = c.in_ok-tree.ensures.none none in let e = c.in-Ok.is in cc)

pub returns-in-Ok-clause-whole : goal.returns-in-Ok-clause-whole
returns-in-Ok-clause-whole g c =
    tree_keeps IsWholeTree c.in_ok-tree.field-0 c.in-Ok.tree c.take_places.result c.in-Ok.is c.in_ok-tree.ensures.whole c.take_places.ensures.same

pub returns-in-Ok-clause-fitting : goal.returns-in-Ok-clause-fitting
returns-in-Ok-clause-fitting g c =
    tree_keeps (IsFittingTree (sizes_of c.args.setting.now.tops)) c.in_ok-tree.field-0 c.in-Ok.tree c.take_places.result c.in-Ok.is c.in_ok-tree.ensures.fitting c.take_places.ensures.same

pub returns-in-Ok-clause-placed : goal.returns-in-Ok-clause-placed
returns-in-Ok-clause-placed g c =
    tree_keeps (IsPlacedTree (sizes_of c.args.setting.now.tops)) c.in_ok-tree.field-0 c.in-Ok.tree c.take_places.result c.in-Ok.is c.in_ok-tree.ensures.placed c.take_places.ensures.same

pub returns-in-Ok-clause-handled : goal.returns-in-Ok-clause-handled
returns-in-Ok-clause-handled g c = handles_after c.take_places.result c.take_places.ensures.memory c.in_ok-tree.ensures.handled

pub returns-in-Err-clause-told : goal.returns-in-Err-clause-told
returns-in-Err-clause-told g c images tell =
    let walked = c.in_ok-tree.ensures.told images tell in
    let f = follows c.args.setting.now (g.C.Chooser.used c.args.chooser.now) c.args.pointer.now images in
    (sym (f.bad c.in-Err.error (sym c.in-Err.is ∙ walked.0)), subst (Tell g.D.Disk.image c.claim_walk.new.disks) (sym f.images) walked.1)

pub returns-in-Err-clause-none : goal.returns-in-Err-clause-none
returns-in-Err-clause-none g c none = let f = c.in_ok-tree.ensures.none none in let e = c.in-Err.is in cc

use Rattle.std.proofs.Common.{◌≡◌, Err, Option, Some, None, refl, sym, subst, ap, ◌∙◌}
use Rattle.std.proofs.lemmas.Result.{IfOk-weaker}
use Rattle.zio_types.specs.declared.error.Errno.TheVariants.{Inval}
use Rattle.zio_blkptr.specs.declared.pointer.Bp.{Bp}
use Rattle.zio_blkptr.proofs.PointerLemmas.{spelling-pointer}
use Rattle.zio_cksum.specs.Images.{Images}
use Rattle.zio_gang.specs.declared.tree.Tree.{Tree}
use Rattle.zio_disks.specs.Claims.{claim_walk, walked_from}
use Rattle.zio_disks.specs.Disks.{Tell}
use Rattle.zio_disks.proofs.DiskLemmas.{handles_none}
use Rattle.zio_disks.proofs.claim.claim_walk.Goals as goal

pub claim_pointer-requires-clause-valid : goal.claim_pointer-requires-clause-valid
claim_pointer-requires-clause-valid g c = (spelling-pointer c.args.pointer.now c.in-Ok.bp c.in-Ok.ensures.pointer).0

pub returns-in-Ok-clause-told : goal.returns-in-Ok-clause-told
unfolding claim_walk
returns-in-Ok-clause-told g c =
    IfOk-weaker c.claim_pointer.result _ _
    (λ found h (images : Images) (tell : Tell g.D.Disk.image c.args.disks.now images).
    subst (λ (o : Option Bp). (found ≡ (walked_from c.args.setting.now o images).tree) × Tell g.D.Disk.image c.claim_pointer.new.disks (walked_from c.args.setting.now o images).images)
    (sym c.in-Ok.ensures.pointer) (h images tell))
    c.claim_pointer.ensures.told

pub returns-in-Ok-clause-pointer : goal.returns-in-Ok-clause-pointer
returns-in-Ok-clause-pointer g c =
    IfOk-weaker c.claim_pointer.result _ _
    (λ found h. IfOk-weaker found _ _ (λ (tree : Tree) (same : tree.bp ≡ c.in-Ok.bp). c.in-Ok.ensures.pointer ∙ ap Some (sym same)) h)
    c.claim_pointer.ensures.pointer

pub returns-in-Ok-clause-none : goal.returns-in-Ok-clause-none
returns-in-Ok-clause-none g c none =
    let both : None ≡ Some c.in-Ok.bp = sym none ∙ c.in-Ok.ensures.pointer in
    absurd (cc)

pub returns-in-Err-clause-told : goal.returns-in-Err-clause-told
unfolding claim_walk
returns-in-Err-clause-told g c images tell =
    subst (λ (o : Option Bp). (Err Inval ≡ (walked_from c.args.setting.now o images).tree) × Tell g.D.Disk.image c.args.disks.now (walked_from c.args.setting.now o images).images)
    (sym c.in-Err.ensures.pointer) (refl, tell)

pub returns-in-Err-clause-handled : goal.returns-in-Err-clause-handled
returns-in-Err-clause-handled g c = handles_none g.D.Disk.bytes g.D.Disk.faults g.D.Disk.faults_at_fetch g.D.Disk.home g.D.Disk.image g.D.Disk.sound g.D.Disk.went _ _ c.args.disks.now (λ e. cc)

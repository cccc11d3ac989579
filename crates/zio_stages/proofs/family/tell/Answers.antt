use Rattle.std.proofs.Common.{◌∙◌, sym, ap, slice_get, is_some, rules}
use Rattle.zio_stages.specs.NodeChildren.{HasTold}
use Rattle.zio_stages.proofs.FamilyLemmas.{copied_some, ready_told, stays_told, vdev_told}
use Rattle.zio_stages.proofs.family.tell.Goals as goal
use Rattle.zio_stages.proofs.family.tell.Goals.{else-ne-via-then-ne+else-is_none, else-ne-via-else-ne}

pub returns-else-ne : goal.returns-else-ne
returns-else-ne c =
    let brood = c.args.brood.now in
    let told : HasTold (slice_get brood c.args.child) = elim c.else-ne.branch [
      | else-ne-via-then-ne+else-is_none w ↦ ready_told c.args.kind (slice_get brood c.args.child) c.requires
          (sym (ap is_some w.ready_value.ensures) ∙ copied_some w.ready_value.result w.is_none.result w.is_none.ensures w.if-is_none.false)
      | else-ne-via-else-ne w ↦ vdev_told c.args.kind (slice_get brood c.args.child) c.requires (search rules)
    ] in
    stays_told brood c.args.child told

use Rattle.std.proofs.Common.{[], Ok, refl, sym, ◌∙◌, subst, arith}
use Rattle.std.proofs.lemmas.List.{with_items_is}
use Rattle.std.specs.Prelude.{IfOk, OnErr, Result}
use Rattle.zio_types.specs.declared.error.Errno.{Errno}
use Rattle.zio_gang.specs.declared.tree.Tree.{Tree}
use Rattle.zio_gang.specs.Trees.{sizes_of, tree_places}
use Rattle.zio_disks.specs.Disks.{Handles}
use Rattle.zio_disks.specs.Trees.{IsPlacedTree}
use Rattle.zio_disks.specs.Whole.{IsWholeTree}
use Rattle.zio_blocks.specs.Claims.{AreTaken, StayTaken}
use Rattle.zio_plain.specs.Grounds.{seen}
use Rattle.zio_plain.proofs.GroundOwn.{breaks_at, stopped_calm, stopped_rose}
use Rattle.zio_plain.proofs.GroundReads.{can_from, claim_does, does_as, ended_does, memory_breaks_own, refused_does, starts, starts_breaks}
use Rattle.zio_plain.proofs.ground.kinds.own_claim.Goals as goal

pub returns-in-Ok-Ok-clause-done : goal.returns-in-Ok-Ok-clause-done
returns-in-Ok-Ok-clause-done g c =
    let base = seen g.C.Chooser.sizes g.C.Chooser.used g.C.Chooser.live g.C.Chooser.given c.args.base.now in
    let disks = c.as_mut_slice.result.now in
    let same = c.as_mut_slice.ensures.value in
    let old = record base { disks = disks } in
    let can = can_from base disks same c.requires.can in
    let now = c.claim_block.new.chooser in
    ended_does c.claimed.result c.claimed.ensures.end c.claimed.ensures.taken
    (λ attempt pointers. starts base _ disks c.claim_block.new.disks same (with_items_is c.args.base.now.disks c.claim_block.new.disks (omega arith))
    (claim_does g.met.C.Chooser.lawful_none c.args.waiting.now attempt pointers old c.claim_block.new.disks (g.C.Chooser.sizes now) (g.C.Chooser.used now) (g.C.Chooser.live now) (g.C.Chooser.given now) c.in-Ok-Ok.tree
    c.requires.kind.0 c.args.pointer.now c.requires.kind.1 can
    (λ images tell. (let h = c.in-Ok-Ok.ensures.told images tell in (sym c.in-Ok-Ok.field-0-is ∙ h.0, h.1)))
    (subst (λ (f : Result Tree Errno). Handles {A = Result Tree Errno} g.D.Disk.bytes g.D.Disk.faults g.D.Disk.faults_at_fetch g.D.Disk.home g.D.Disk.image g.D.Disk.sound g.D.Disk.went [] (Ok f) disks c.claim_block.new.disks)
    c.in-Ok-Ok.field-0-is c.in-Ok-Ok.ensures.handled)
    (subst (λ (f : Result Tree Errno). IfOk f (λ (tree : Tree). AreTaken (tree_places tree) old.used old.live (g.C.Chooser.used now) (g.C.Chooser.live now))) c.in-Ok-Ok.field-0-is c.in-Ok-Ok.ensures.claimed)
    c.in-Ok-Ok.ensures.held
    (subst (λ (f : Result Tree Errno). IfOk f IsWholeTree) c.in-Ok-Ok.field-0-is c.in-Ok-Ok.ensures.whole)
    (subst (λ (f : Result Tree Errno). IfOk f (IsPlacedTree (sizes_of old.setting.tops))) c.in-Ok-Ok.field-0-is c.in-Ok-Ok.ensures.placed)
    c.in-Ok-Ok.ensures.sizes c.in-Ok-Ok.ensures.given))

pub returns-in-Ok-Ok-clause-breaks : goal.returns-in-Ok-Ok-clause-breaks
returns-in-Ok-Ok-clause-breaks g c =
    let base = seen g.C.Chooser.sizes g.C.Chooser.used g.C.Chooser.live g.C.Chooser.given c.args.base.now in
    let disks = c.as_mut_slice.result.now in
    let same = c.as_mut_slice.ensures.value in
    let old = record base { disks = disks } in
    memory_breaks_own c.args.waiting.now base _ c.claimed.result c.claimed.ensures.memory
    (λ device none. starts_breaks c.args.waiting.now base _ disks c.claim_block.new.disks same (with_items_is c.args.base.now.disks c.claim_block.new.disks (omega arith))
    (breaks_at [] c.args.waiting.now old (record old { disks = c.claim_block.new.disks; sizes = g.C.Chooser.sizes c.claim_block.new.chooser; used = g.C.Chooser.used c.claim_block.new.chooser; live = g.C.Chooser.live c.claim_block.new.chooser; given = g.C.Chooser.given c.claim_block.new.chooser }) device refl c.in-Ok-Ok.ensures.sizes refl (λ named fits. tt)
    c.in-Ok-Ok.ensures.handled.same (λ d. absurd (none d)) (λ other. c.in-Ok-Ok.ensures.handled.steady) c.in-Ok-Ok.ensures.handled.outside))

pub returns-in-Ok-Err-clause-done : goal.returns-in-Ok-Err-clause-done
returns-in-Ok-Err-clause-done g c = λ attempt pointers.
    (let base = seen g.C.Chooser.sizes g.C.Chooser.used g.C.Chooser.live g.C.Chooser.given c.args.base.now in
    let disks = c.as_mut_slice.result.now in
    let same = c.as_mut_slice.ensures.value in
    let old = record base { disks = disks } in
    let can = can_from base disks same c.requires.can in
    let now = c.claim_block.new.chooser in
    let stays : StayTaken old.used old.live (g.C.Chooser.used now) (g.C.Chooser.live now) =
    subst (λ (f : Result Tree Errno). OnErr f (StayTaken old.used old.live (g.C.Chooser.used now) (g.C.Chooser.live now))) c.in-Ok-Err.field-0-is c.in-Ok-Err.ensures.refused in
    does_as c.nothing.ensures.end c.nothing.ensures.taken
    (starts base _ disks c.claim_block.new.disks same (with_items_is c.args.base.now.disks c.claim_block.new.disks (omega arith))
    (refused_does g.met.C.Chooser.lawful_none c.args.waiting.now attempt pointers old c.claim_block.new.disks (g.C.Chooser.sizes now) (g.C.Chooser.used now) (g.C.Chooser.live now) (g.C.Chooser.given now) c.in-Ok-Err.error
    c.requires.kind.0 c.args.pointer.now c.requires.kind.1 can
    (λ images tell. (let h = c.in-Ok-Err.ensures.told images tell in (sym c.in-Ok-Err.field-0-is ∙ h.0, h.1)))
    (subst (λ (f : Result Tree Errno). Handles {A = Result Tree Errno} g.D.Disk.bytes g.D.Disk.faults g.D.Disk.faults_at_fetch g.D.Disk.home g.D.Disk.image g.D.Disk.sound g.D.Disk.went [] (Ok f) disks c.claim_block.new.disks)
    c.in-Ok-Err.field-0-is c.in-Ok-Err.ensures.handled)
    c.in-Ok-Err.ensures.sizes stays.used stays.live c.in-Ok-Err.ensures.given)))

pub returns-in-Err-clause-breaks : goal.returns-in-Err-clause-breaks
returns-in-Err-clause-breaks g c =
    let base = seen g.C.Chooser.sizes g.C.Chooser.used g.C.Chooser.live g.C.Chooser.given c.args.base.now in
    let disks = c.as_mut_slice.result.now in
    let same = c.as_mut_slice.ensures.value in
    let old = record base { disks = disks } in
    starts_breaks c.args.waiting.now base _ disks c.claim_block.new.disks same (with_items_is c.args.base.now.disks c.claim_block.new.disks (omega arith))
    (breaks_at [] c.args.waiting.now old (record old { disks = c.claim_block.new.disks; sizes = g.C.Chooser.sizes c.claim_block.new.chooser; used = g.C.Chooser.used c.claim_block.new.chooser; live = g.C.Chooser.live c.claim_block.new.chooser; given = g.C.Chooser.given c.claim_block.new.chooser }) _ refl c.in-Err.ensures.sizes refl (λ named fits. tt)
    c.in-Err.ensures.handled.same (stopped_rose c.in-Err.stop c.stopped.result c.stopped.ensures c.in-Err.ensures.handled)
    (stopped_calm c.in-Err.stop c.stopped.result c.stopped.ensures c.in-Err.ensures.handled) c.in-Err.ensures.handled.outside)

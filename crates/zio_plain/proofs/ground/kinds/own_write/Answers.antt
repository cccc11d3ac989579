use Rattle.std.proofs.Common.{refl, ◌∙◌, arith}
use Rattle.std.proofs.lemmas.List.{with_items_is}
use Rattle.zio_blocks.specs.Choosers.{given_since, taken_by_all}
use Rattle.zio_plain.specs.Grounds.{seen}
use Rattle.zio_plain.specs.Waits.{pointers_in}
use Rattle.zio_plain.proofs.GroundOwn.{breaks_at, stopped_calm, stopped_rose}
use Rattle.zio_plain.proofs.GroundReads.{memory_breaks_own, starts, starts_breaks}
use Rattle.zio_plain.proofs.GroundTaken.{taken_free, taken_inside}
use Rattle.zio_plain.proofs.GroundWrites.{content_breaks, free_may, write_does, written_does}
use Rattle.zio_plain.proofs.ground.kinds.own_write.Goals as goal

pub returns-in_err-bytes-clause-breaks : goal.returns-in_err-bytes-clause-breaks
returns-in_err-bytes-clause-breaks g c =
    content_breaks g.D.Disk.bytes g.D.Disk.faults g.D.Disk.faults_at_fetch g.D.Disk.home g.D.Disk.image g.D.Disk.sound c.args.waiting.now _ c.from_residual.result c.from_residual.ensures.1

pub returns-in-Ok-clause-done : goal.returns-in-Ok-clause-done
returns-in-Ok-clause-done g c =
    let base = seen g.C.Chooser.sizes g.C.Chooser.used g.C.Chooser.live g.C.Chooser.given c.args.base.now in
    let disks = c.as_mut_slice.result.now in
    let same = c.as_mut_slice.ensures.value in
    let old = record base { disks = disks } in
    let left = c.place_block.new.disks in
    let now = c.place_block.new.chooser in
    let new = record old { disks = left; sizes = g.C.Chooser.sizes now; used = g.C.Chooser.used now; live = g.C.Chooser.live now; given = g.C.Chooser.given now } in
    written_does c.written.result c.written.ensures.end c.written.ensures.taken
    (starts base _ disks left same (with_items_is c.args.base.now.disks left (omega arith))
    (write_does g.met.C.Chooser.lawful_found g.met.C.Chooser.lawful_open c.args.waiting.now c.args.attempt (pointers_in c.args.children.now) old left new.sizes new.used new.live new.given
    (record { request = c.args.waiting.now.request.number; round = c.args.base.now.round; attempt = c.args.attempt; sum = c.args.sum; copies = c.args.copies; birth = c.from.result })
    c.in-Ok.placed c.as_slice.result.now c.requires.kind.0 c.args.sum c.args.copies c.requires.kind.1.0 c.args.body.now c.requires.kind.1.1
    (record { request = refl; round_is = refl; attempt_is = refl; sum_is = refl; copies_are = refl; birth = c.from.ensures })
    (c.as_slice.ensures ∙ c.in_ok-bytes.ensures.content)
    c.requires.can.held c.in-Ok.ensures.held c.in-Ok.ensures.sizes c.in-Ok.ensures.told c.in-Ok.ensures.asks c.in-Ok.ensures.keys c.in-Ok.ensures.places (λ none. (c.in-Ok.ensures.nowhere none).0)
    c.in-Ok.ensures.inside c.in-Ok.ensures.whole c.in-Ok.ensures.handled))

pub returns-in-Ok-clause-breaks : goal.returns-in-Ok-clause-breaks
returns-in-Ok-clause-breaks g c =
    let base = seen g.C.Chooser.sizes g.C.Chooser.used g.C.Chooser.live g.C.Chooser.given c.args.base.now in
    let disks = c.as_mut_slice.result.now in
    let same = c.as_mut_slice.ensures.value in
    let old = record base { disks = disks } in
    let left = c.place_block.new.disks in
    let now = c.place_block.new.chooser in
    let new = record old { disks = left; sizes = g.C.Chooser.sizes now; used = g.C.Chooser.used now; live = g.C.Chooser.live now; given = g.C.Chooser.given now } in
    memory_breaks_own c.args.waiting.now base _ c.written.result c.written.ensures.memory
    (λ device none. starts_breaks c.args.waiting.now base _ disks left same (with_items_is c.args.base.now.disks left (omega arith))
    (breaks_at (taken_by_all (given_since old.given new.given)) c.args.waiting.now old new device refl c.in-Ok.ensures.sizes
    (taken_inside old.sizes (given_since old.given new.given) (g.met.C.Chooser.lawful_found _ _ _ c.in-Ok.ensures.asks.lawful))
    (λ named fits. free_may old.used named.places (taken_by_all (given_since old.given new.given)) (taken_free old.used (given_since old.given new.given) (g.met.C.Chooser.lawful_open _ _ _ c.in-Ok.ensures.asks.lawful)))
    c.in-Ok.ensures.handled.same (λ d. absurd (none d)) (λ other. c.in-Ok.ensures.handled.steady) c.in-Ok.ensures.handled.outside))

pub returns-clause-breaks : goal.returns-clause-breaks
returns-clause-breaks g c =
    let base = seen g.C.Chooser.sizes g.C.Chooser.used g.C.Chooser.live g.C.Chooser.given c.args.base.now in
    let disks = c.as_mut_slice.result.now in
    let same = c.as_mut_slice.ensures.value in
    let old = record base { disks = disks } in
    let left = c.place_block.new.disks in
    let now = c.place_block.new.chooser in
    let new = record old { disks = left; sizes = g.C.Chooser.sizes now; used = g.C.Chooser.used now; live = g.C.Chooser.live now; given = g.C.Chooser.given now } in
    starts_breaks c.args.waiting.now base _ disks left same (with_items_is c.args.base.now.disks left (omega arith))
    (breaks_at (taken_by_all (given_since old.given new.given)) c.args.waiting.now old new _ refl c.in-Err.ensures.sizes
    (taken_inside old.sizes (given_since old.given new.given) (g.met.C.Chooser.lawful_found _ _ _ c.in-Err.ensures.asks.lawful))
    (λ named fits. free_may old.used named.places (taken_by_all (given_since old.given new.given)) (taken_free old.used (given_since old.given new.given) (g.met.C.Chooser.lawful_open _ _ _ c.in-Err.ensures.asks.lawful)))
    c.in-Err.ensures.handled.same (stopped_rose c.in-Err.stop c.stopped.result c.stopped.ensures c.in-Err.ensures.handled)
    (stopped_calm c.in-Err.stop c.stopped.result c.stopped.ensures c.in-Err.ensures.handled) c.in-Err.ensures.handled.outside)

use Rattle.std.proofs.Common.{refl, sym, ap, ◌∙◌, arith}
use Rattle.std.proofs.lemmas.List.{with_items_is}
use Rattle.zio_gang.specs.Trees.{tree_places}
use Rattle.zio_plain.specs.Grounds.{seen}
use Rattle.zio_plain.proofs.GroundOwn.{breaks_at, found_end, named_may, stopped_calm, stopped_rose}
use Rattle.zio_plain.proofs.GroundReads.{can_from, does_as, read_does, starts, starts_breaks, tree_lies, tree_within}
use Rattle.zio_plain.proofs.ground.kinds.own_read.Goals as goal

pub returns-in-Ok-Ok-clause-done : goal.returns-in-Ok-Ok-clause-done
returns-in-Ok-Ok-clause-done g c = λ attempt pointers.
    (let base = seen g.C.Chooser.sizes g.C.Chooser.used g.C.Chooser.live g.C.Chooser.given c.args.base.now in
    let disks = c.as_mut_slice.result.now in
    let same = c.as_mut_slice.ensures.value in
    let old = record base { disks = disks } in
    let can = can_from base disks same c.requires.can in
    does_as (c.found.ensures.end ∙ ap found_end (sym c.in-Ok-Ok.field-0-is)) c.found.ensures.taken
    (starts base _ disks c.read_tree.new.disks same (with_items_is c.args.base.now.disks c.read_tree.new.disks (omega arith))
    (read_does g.met.C.Chooser.lawful_none c.args.waiting.now attempt pointers old c.read_tree.new.disks c.in-Some.tree c.in-Ok-Ok.field-0 c.requires.kind.0 c.requires.kind.1.0 c.requires.kind.1.1 c.in-Some.is can c.requires.sound
    c.in-Ok-Ok.ensures.told c.in-Ok-Ok.ensures.length c.in-Ok-Ok.ensures.handled)))

pub returns-in-Ok-Err-clause-done : goal.returns-in-Ok-Err-clause-done
returns-in-Ok-Err-clause-done g c = λ attempt pointers.
    (let base = seen g.C.Chooser.sizes g.C.Chooser.used g.C.Chooser.live g.C.Chooser.given c.args.base.now in
    let disks = c.as_mut_slice.result.now in
    let same = c.as_mut_slice.ensures.value in
    let old = record base { disks = disks } in
    let can = can_from base disks same c.requires.can in
    does_as (c.nothing-in-Ok-Err.ensures.end ∙ ap found_end (sym c.in-Ok-Err.field-0-is)) c.nothing-in-Ok-Err.ensures.taken
    (starts base _ disks c.read_tree.new.disks same (with_items_is c.args.base.now.disks c.read_tree.new.disks (omega arith))
    (read_does g.met.C.Chooser.lawful_none c.args.waiting.now attempt pointers old c.read_tree.new.disks c.in-Some.tree c.in-Ok-Err.field-0 c.requires.kind.0 c.requires.kind.1.0 c.requires.kind.1.1 c.in-Some.is can c.requires.sound
    c.in-Ok-Err.ensures.told c.in-Ok-Err.ensures.length c.in-Ok-Err.ensures.handled)))

pub returns-in-Err-clause-breaks : goal.returns-in-Err-clause-breaks
returns-in-Err-clause-breaks g c =
    let base = seen g.C.Chooser.sizes g.C.Chooser.used g.C.Chooser.live g.C.Chooser.given c.args.base.now in
    let disks = c.as_mut_slice.result.now in
    let same = c.as_mut_slice.ensures.value in
    let old = record base { disks = disks } in
    let can = can_from base disks same c.requires.can in
    starts_breaks c.args.waiting.now base _ disks c.read_tree.new.disks same (with_items_is c.args.base.now.disks c.read_tree.new.disks (omega arith))
    (breaks_at (tree_places c.in-Some.tree) c.args.waiting.now old (record old { disks = c.read_tree.new.disks }) _ refl refl (tree_lies c.in-Some.tree can c.in-Some.is)
    (λ named fits. named_may _ named.places (tree_places c.in-Some.tree) (tree_within c.args.waiting.now c.in-Some.tree c.in-Some.is named fits))
    c.in-Err.ensures.handled.same (stopped_rose c.in-Err.stop c.stopped.result c.stopped.ensures c.in-Err.ensures.handled)
    (stopped_calm c.in-Err.stop c.stopped.result c.stopped.ensures c.in-Err.ensures.handled) c.in-Err.ensures.handled.outside)

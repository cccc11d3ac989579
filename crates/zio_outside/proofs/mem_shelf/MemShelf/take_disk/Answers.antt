use Rattle.std.proofs.Common.{ap, sym, ◌∙◌, Some}
use Rattle.zio_outside.specs.MemoryShelf.{at_home}
use Rattle.zio_outside.proofs.SlotLemmas.{slot_of-none, place_from_position, disk_found, name_found, change_at, if_none}
use Rattle.zio_outside.proofs.mem_shelf.MemShelf.take_disk.Goals as goal

pub returns-in_err-k-clause-was : goal.returns-in_err-k-clause-was
returns-in_err-k-clause-was g c =
    c.from_residual.ensures ∙ sym (ap at_home (slot_of-none c.args.name.now c.args.self.now.slots.items (sym c.in_err-k.ensures)))

pub returns-clause-was : goal.returns-clause-was
returns-clause-was g c =
    let place = place_from_position c.args.name.now c.args.self.now.slots.items c.in_ok-k.k (sym c.in_ok-k.ensures) in
    c.take.ensures.value ∙ sym (ap at_home (disk_found _ _ _ _ place c.index_mut-slot.ensures.value))

pub returns-clause-some : goal.returns-clause-some
returns-clause-some g c there =
    let place = place_from_position c.args.name.now c.args.self.now.slots.items c.in_ok-k.k (sym c.in_ok-k.ensures) in
    let named = name_found _ _ _ _ place c.index_mut-slot.ensures.value in
    change_at _ _ _ (record { name = c.index_mut-slot.result.now.name; disk = c.take.new.self }) _ place named c.take.ensures.after

pub returns-clause-none : goal.returns-clause-none
returns-clause-none g c =
    let place = place_from_position c.args.name.now c.args.self.now.slots.items c.in_ok-k.k (sym c.in_ok-k.ensures) in
    let found = disk_found _ _ _ _ place c.index_mut-slot.ensures.value in
    if_none c.take.result (λ e. absurd (c.requires (found ∙ ap Some (sym c.take.ensures.value ∙ e))))

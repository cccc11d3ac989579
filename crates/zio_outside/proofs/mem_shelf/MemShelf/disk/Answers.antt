use Rattle.std.proofs.Common.{ap, sym, ◌∙◌}
use Rattle.zio_outside.specs.MemoryShelf.{at_home}
use Rattle.zio_outside.proofs.SlotLemmas.{slot_of-none, place_from_position, disk_found}
use Rattle.zio_outside.proofs.mem_shelf.MemShelf.disk.Goals as goal

pub returns-in_err-k : goal.returns-in_err-k
returns-in_err-k g c =
    rw c.from_residual.ensures (sym (ap at_home (slot_of-none c.args.name.now c.args.self.now.slots.items (sym c.in_err-k.ensures))))

pub returns : goal.returns
returns g c =
    let place = place_from_position c.args.name.now c.args.self.now.slots.items c.in_ok-k.k (sym c.in_ok-k.ensures) in
    c.as_ref.ensures.value ∙ sym (ap at_home (disk_found _ _ _ _ place c.index.ensures))

use Rattle.std.proofs.Common.{Some}
use Rattle.zio_outside.proofs.SlotLemmas.{ChangesOnly-push}
use Rattle.zio_outside.proofs.mem_shelf.MemShelf.put.Goals as goal

pub returns-clause-ok : goal.returns-clause-ok
returns-clause-ok g c =
    rw (c.in-Ok.ensures.items, c.reserve.ensures.items)
    (ChangesOnly-push c.args.self.now.slots.items (record { name = c.args.name; disk = Some c.args.disk }) c.requires)

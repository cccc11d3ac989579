use Rattle.std.proofs.Common.{◌≡◌, refl, Some, None}
use Rattle.zio_outside.specs.MemoryShelf.{slot_of}
use Rattle.zio_outside.proofs.SlotLemmas.{slot_of-none, place_from_position, name_found, change_at, home_place}
use Rattle.zio_outside.proofs.mem_shelf.MemShelf.put_home.Goals as goal

pub returns-clause-change : goal.returns-clause-change
returns-clause-change g c name home =
    let slots = c.args.self.now.slots.items in
    let is = (g.met.D.ShelfDisk.tells_home c.args.disk name).0 home in
    let place = place_from_position name slots c.in-Some.k (home_place slots (g.D.ShelfDisk.home_name c.args.disk) name _ is c.in-Some.ensures) in
    let named = name_found slots name c.in-Some.k c.index_mut-slot.result.now place c.index_mut-slot.ensures.value in
    change_at slots name c.in-Some.k (record { name = c.index_mut-slot.result.now.name; disk = Some c.args.disk }) _ place named refl

pub unreachable-requires : goal.unreachable-requires
unreachable-requires g c =
    let slots = c.args.self.now.slots.items in
    let name = c.requires.0 in
    let is = (g.met.D.ShelfDisk.tells_home c.args.disk name).0 c.requires.1 in
    let none : slot_of slots name ≡ None =
    slot_of-none name slots (home_place slots (g.D.ShelfDisk.home_name c.args.disk) name _ is c.in-None.ensures) in
    let out : slot_of slots name ≡ Some None = c.requires.2 in
    cc

use Rattle.std.proofs.Common.{Some}
use Rattle.zio_book.proofs.Seats.{slot_here}
use Rattle.zio_book.proofs.book.Book.take_out.Goals as goal

pub exchange-requires : goal.exchange-requires
exchange-requires g c = (c.requires.table, slot_here g.H.Held.gives c.args.self.now c.args.seat.now.me.1 (Some c.requires.slot.0) c.requires.slot.1)

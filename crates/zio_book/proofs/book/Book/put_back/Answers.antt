use Rattle.std.proofs.Common.{Some, None}
use Rattle.zio_book.proofs.Seats.{slot_here, slot_now}
use Rattle.zio_book.proofs.book.Book.put_back.Goals as goal

pub exchange-empty-requires : goal.exchange-empty-requires
exchange-empty-requires g c = (c.requires.table, slot_here g.H.Held.gives c.args.self.now c.args.seat.now.me.1 None c.requires.slot)

pub returns-clause-me : goal.returns-clause-me
returns-clause-me g c = slot_now g.H.Held.gives c.args.self.now c.args.seat.now.me.0 c.args.seat.now.me.1 None (Some c.args.kept) _ c.requires.slot c.exchange-empty.ensures.3

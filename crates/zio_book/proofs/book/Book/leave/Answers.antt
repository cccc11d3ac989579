use Rattle.std.proofs.Common.{arith}
use Rattle.zio_book.proofs.Seats.{serve_seat, served_view}
use Rattle.zio_book.proofs.book.Book.leave.Goals as goal

pub fetch_add-served-requires : goal.fetch_add-served-requires
fetch_add-served-requires g c = let sized = c.args.self.now.sized in (c.requires.table, omega arith, serve_seat g.H.Held.gives c.args.self.now _ _ c.args.seat.now c.requires.inside)

pub returns-clause-view : goal.returns-clause-view
returns-clause-view g c = served_view g.H.Held.gives c.args.self.now c.args.seat.now.me _ c.requires.inside.0 c.requires.inside.1 c.fetch_add-served.ensures.2

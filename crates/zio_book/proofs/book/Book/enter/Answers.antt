use Rattle.std.proofs.Common.{arith, ◌∙◌}
use Rattle.zio_book.proofs.Seats.{draw_seat, look_seat, entered}
use Rattle.zio_book.proofs.book.Book.enter.Goals as goal

pub fetch_add-ticket-requires : goal.fetch_add-ticket-requires
fetch_add-ticket-requires g c = let sized = c.args.self.now.sized in (c.requires.table, omega arith, draw_seat g.H.Held.gives c.args.self.now _ _ c.args.seat.now c.requires)

pub load-serving-requires : goal.load-serving-requires
load-serving-requires g c = let sized = c.args.self.now.sized in (c.loop.invariant.0 ∙ c.requires.table, omega arith, look_seat g.H.Held.gives c.args.self.now _ _ c.loop.seat.me c.args.seat.now.me.0 c.loop.invariant.1.0 c.loop.invariant.1.1)

pub returns-then-serving-ticket-clause-inside : goal.returns-then-serving-ticket-clause-inside
returns-then-serving-ticket-clause-inside g c =
    entered g.H.Held.gives c.args.self.now c.args.seat.now c.load-serving.new.seat c.loop.seat.me c.loop.invariant.1.0 c.load-serving.result c.fetch_add-ticket.result c.requires c.loop.invariant.1.1 c.loop.invariant.1.2 c.if-serving-ticket.true c.load-serving.ensures.2.0

use Rattle.std.proofs.Common.{◌-◌, arith, ap}
use Rattle.zio_book.proofs.Ends.{deal_seat}
use Rattle.zio_book.proofs.book.Book.deal.Goals as goal

pub split_seat-seat-requires : goal.split_seat-seat-requires
split_seat-seat-requires g c = let sized = c.args.self.now.sized in (
  c.loop.invariant.0,
  omega arith,
  deal_seat g.H.Held.gives c.args.self.now _ c.loop.all.me.0 (c.args.passes - c.loop.counter) (ap (λ m. m.0) c.loop.invariant.1) (omega arith),
)

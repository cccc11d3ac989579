use Rattle.std.proofs.Common.{arith, ap}
use Rattle.zio_book.proofs.Steps.{claims'}
use Rattle.zio_book.proofs.book.Book.receipt.Goals as goal

pub split_seat-requires : goal.split_seat-requires
split_seat-requires g c = let sized = c.args.self.now.sized in (c.requires.table, omega arith, claims' g.H.Held.gives c.args.self.now.table.shared.key _ c.args.seat.now.me.0 (ap (λ v. v.busy) c.requires.view) (ap (λ v. v.inside) c.requires.view))

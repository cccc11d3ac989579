use Rattle.std.proofs.Common.{arith, ap, ◌∙◌}
use Rattle.zio_book.proofs.Steps.{gathers}
use Rattle.zio_book.proofs.Receipts.{receipt_busy, learned_seat, learned_claims}
use Rattle.zio_book.proofs.book.Book.learn.Goals as goal

pub join_seat-requires : goal.join_seat-requires
join_seat-requires g c =
    let sized = c.args.self.now.sized in
    let is = receipt_busy g.H.Held.gives c.args.self.now c.args.receipt c.into_seat.result.me.0 c.into_seat.ensures.2 c.requires.receipt in (
      c.requires.seat.table,
      c.into_seat.ensures.0 ∙ c.requires.receipt.2.table,
      c.into_seat.ensures.3,
      omega arith,
      gathers g.H.Held.gives c.args.self.now.table.shared.key _ c.args.seat.now.me.0 _ c.into_seat.result.me.0 (ap (λ v. v.busy) c.requires.seat.view) (ap (λ v. v.inside) c.requires.seat.view) is.0 is.1,
    )

pub returns-clause-seat : goal.returns-clause-seat
returns-clause-seat g c = learned_seat g.H.Held.gives c.args.self.now c.args.receipt c.into_seat.result.me.0 c.args.seat.now c.join_seat.new.seat c.into_seat.ensures.2 c.requires.receipt c.requires.seat c.join_seat.ensures.0 c.join_seat.ensures.2

pub returns-clause-claims : goal.returns-clause-claims
returns-clause-claims g c = learned_claims g.H.Held.gives c.args.self.now c.args.receipt c.into_seat.result.me.0 c.args.seat.now c.join_seat.new.seat c.into_seat.ensures.2 c.requires.receipt c.requires.seat c.join_seat.ensures.0 c.join_seat.ensures.2

use Rattle.std.proofs.Common.{arith, ap, ◌∙◌, sym}
use Rattle.zio_book.proofs.Steps.{claims'}
use Rattle.zio_book.proofs.Receipts.{receipt_busy}
use Rattle.zio_book.proofs.book.Book.copy.Goals as goal

pub split_seat-other-requires : goal.split_seat-other-requires
split_seat-other-requires g c =
    let sized = c.args.self.now.sized in
    let views = ap (λ b. b.views) (sym c.replace-badge.ensures.value) ∙ c.into_seat-seat.ensures.2 in
    let is = receipt_busy g.H.Held.gives c.args.self.now c.args.receipt.now c.into_seat-seat.result.me.0 views c.requires in (
      c.into_seat-seat.ensures.0 ∙ ap (λ b. b.table_id) c.replace-badge.ensures.value ∙ c.requires.2.table,
      omega arith,
      claims' g.H.Held.gives c.args.self.now.table.shared.key _ c.into_seat-seat.result.me.0 is.0 is.1,
    )

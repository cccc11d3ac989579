use Rattle.std.proofs.Common.{arith, ap, ◌∙◌, subst, All}
use Rattle.zio_book.specs.Books.{IsReceiptOf, IsSeatOf}
use Rattle.zio_book.proofs.Closing.{all_init, show_step}
use Rattle.zio_book.proofs.book.Book.show.Goals as goal

pub loop-receipt-preserved : goal.loop-receipt-preserved
loop-receipt-preserved g c =
    let i = c.loop-receipt.invariant in
    let both = all_init (IsReceiptOf c.args.self.now) c.pop.new.self.items c.in-Some.receipt (subst (All (IsReceiptOf c.args.self.now)) c.in-Some.ensures.items i.3) in
    let seat = subst (λ n. IsSeatOf c.args.self.now n c.learn.new.seat) i.1 c.learn.ensures.seat.0 in (
      seat,
      ap (λ v. v.passes) seat.view,
      c.learn.ensures.seat.1 ∙ i.2,
      both.0,
      show_step c.args.self.now c.loop-receipt.shown.items c.pop.new.self.items c.args.shown.items c.in-Some.receipt c.loop-receipt.all.me.0.claims c.learn.new.seat.me.0.claims c.in-Some.ensures.items both.1 c.learn.ensures.claims i.4,
    )

pub returns-clause-shown : goal.returns-clause-shown
returns-clause-shown g c =
    let b = c.in_default.ensures.cases in
    λ log follow. c.loop-receipt.invariant.4 log follow (λ k d h. absurd (omega arith))

use Rattle.std.proofs.Common.{◌<◌, length, arith, ap, ◌∙◌, sym, subst, slice_index_or}
use Rattle.std.proofs.lemmas.List.Elements.{All-get_or}
use Rattle.zio_book.specs.Books.{IsReceiptOf, IsSeatOf, IsSameReceipt}
use Rattle.zio_book.proofs.Closing.{copy_of, learn_step, turn, turn_rest}
use Rattle.zio_book.proofs.book.Book.learn_all.Goals as goal

pub copy-note-requires : goal.copy-note-requires
copy-note-requires g c =
    subst (IsReceiptOf c.args.self.now) (sym (c.loop-receipt.invariant.4 c.loop-receipt.receipt-index c.receipt-item.result (omega arith)))
    (All-get_or (IsReceiptOf c.args.self.now) c.args.after.now c.loop-receipt.receipt-index c.receipt-item.result (omega arith) c.requires.after)

pub learn-requires-clause-receipt : goal.learn-requires-clause-receipt
learn-requires-clause-receipt g c =
    let of = subst (IsReceiptOf c.args.self.now) (sym (c.loop-receipt.invariant.4 c.loop-receipt.receipt-index c.receipt-item.result (omega arith)))
    (All-get_or (IsReceiptOf c.args.self.now) c.args.after.now c.loop-receipt.receipt-index c.receipt-item.result (omega arith) c.requires.after) in
    copy_of c.args.self.now (slice_index_or c.loop-receipt.after c.loop-receipt.receipt-index c.receipt-item.result) c.copy-note.result of c.copy-note.ensures.1

pub loop-receipt-preserved : goal.loop-receipt-preserved
loop-receipt-preserved g c =
    let k = c.loop-receipt.receipt-index in
    let team = c.loop-receipt.after in
    let item = c.receipt-item.result in
    let there : k < length team = omega arith in
    let of = subst (IsReceiptOf c.args.self.now) (sym (c.loop-receipt.invariant.4 k item (omega arith))) (All-get_or (IsReceiptOf c.args.self.now) c.args.after.now k item (omega arith) c.requires.after) in
    let one = ap (λ v. v.passes) c.loop-receipt.invariant.0.view in (
      subst (λ n. IsSeatOf c.args.self.now n c.learn.new.seat) one c.learn.ensures.seat.0,
      c.learn.ensures.seat.1 ∙ c.loop-receipt.invariant.1,
      learn_step c.args.self.now k c.args.after.now team item c.copy-note.result c.loop-receipt.seat.me.0.claims c.learn.new.seat.me.0.claims there c.loop-receipt.invariant.4 of c.copy-note.ensures.1 c.learn.ensures.claims c.loop-receipt.invariant.2,
      turn (IsSameReceipt c.args.self.now) k c.args.after.now team item c.copy-note.new.receipt there c.loop-receipt.invariant.3 c.loop-receipt.invariant.4 c.copy-note.ensures.0,
      turn_rest (IsSameReceipt c.args.self.now) k c.args.after.now team item c.copy-note.new.receipt there c.loop-receipt.invariant.3 c.loop-receipt.invariant.4 c.copy-note.ensures.0,
    )

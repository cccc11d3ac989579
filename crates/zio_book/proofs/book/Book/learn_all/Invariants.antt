use Rattle.std.proofs.Common.{◌≡◌, ℕ, ◌<◌, ◌≤◌, slice_index_or}
use Rattle.zio_book.specs.declared.book.Receipt.{Receipt}
use Rattle.zio_book.specs.Books.{IsSeatOf, IsSameReceipt, Learned}
use Rattle.zio_book.proofs.book.Book.learn_all.Given as goal

abbrev pub invariant-loop-receipt : goal.invariant-loop-receipt
invariant-loop-receipt g l =
    IsSeatOf l.self 1 l.seat × (l.seat.me.0.acts ≡ l.fn.seat.me.0.acts)
    × ((j : ℕ) (d : Receipt g.row.H.Denot g.row.H-Cmd.Denot g.row.H-Reply.Denot g.row.H-Note.Denot) → j < l.receipt-index → Learned l.seat.me.0.claims (slice_index_or l.initial.after j d).number)
    × ((j : ℕ) (d : Receipt g.row.H.Denot g.row.H-Cmd.Denot g.row.H-Reply.Denot g.row.H-Note.Denot) → j < l.receipt-index → IsSameReceipt l.self (slice_index_or l.initial.after j d) (slice_index_or l.after j d))
    × ((j : ℕ) (d : Receipt g.row.H.Denot g.row.H-Cmd.Denot g.row.H-Reply.Denot g.row.H-Note.Denot) → l.receipt-index ≤ j → slice_index_or l.after j d ≡ slice_index_or l.initial.after j d)

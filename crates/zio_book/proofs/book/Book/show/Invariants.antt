use Rattle.std.proofs.Common.{◌≡◌, List, length, All}
use Rattle.zio_book.specs.History.{AllFollow}
use Rattle.zio_book.specs.Books.{IsSeatOf, IsReceiptOf, IsShown}
use Rattle.zio_book.proofs.book.Book.show.Given as goal

abbrev pub invariant-loop-receipt : goal.invariant-loop-receipt
invariant-loop-receipt g l =
    IsSeatOf l.self l.fn.all.me.0.passes l.all × (l.all.me.0.passes ≡ l.fn.all.me.0.passes) × (l.all.me.0.acts ≡ l.fn.all.me.0.acts) × All (IsReceiptOf l.self) l.shown.items
    × ((log : List g.row.H-Note.Denot) → AllFollow log l.all.me.0.claims → All (IsShown l.self log) l.shown.items → All (IsShown l.self log) l.fn.shown.items)

abbrev pub decreases-loop-receipt : goal.decreases-loop-receipt
decreases-loop-receipt g l = length l.shown.items

use Rattle.std.proofs.Common.{sym, subst, All}
use Rattle.zio_book.specs.Books.{IsReceiptOf, IsShown}
use Rattle.zio_book.proofs.book.Book.close.Goals as goal

pub show-all-requires-clause-shown : goal.show-all-requires-clause-shown
show-all-requires-clause-shown g c = subst (All (IsReceiptOf c.args.self)) (sym c.into_vec-2.ensures) c.requires.shown

pub returns-clause-shown : goal.returns-clause-shown
returns-clause-shown g c = subst (All (IsShown c.args.self c.end.result.1)) c.into_vec-2.ensures (c.show-all.ensures.shown c.end.result.1 c.end.ensures.claims)

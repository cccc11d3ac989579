use Rattle.zio_book.specs.Books.{IsPassOf}
use Rattle.zio_thread_tests.proofs.books.act_often.Given as goal

abbrev pub invariant-loop : goal.invariant-loop
invariant-loop g l = IsPassOf l.book l.pass

use Rattle.zio_book.specs.Books.{IsPassOf}
use Rattle.zio_bench_workers.proofs.acts.act_often.Given as goal

abbrev pub invariant-loop : goal.invariant-loop
invariant-loop g l = IsPassOf l.book l.pass

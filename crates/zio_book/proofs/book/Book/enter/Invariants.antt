use Rattle.std.proofs.Common.{◌≡◌, ℕ, ◌%◌, ◌^◌, []}
use Rattle.zio_book.specs.Rule.{waiting}
use Rattle.zio_book.proofs.book.Book.enter.Given as goal

abbrev pub invariant-loop : goal.invariant-loop
invariant-loop g l = (l.seat.table_id ≡ l.fn.seat.table_id) × ((t : ℕ) × (l.seat.me ≡ (waiting l.fn.seat.me.0 t, [])) × (l.ticket ≡ t % 2 ^ 64))

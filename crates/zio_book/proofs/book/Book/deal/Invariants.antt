use Rattle.std.proofs.Common.{◌≡◌, ◌-◌, ◌≤◌, [], length, Some, All, vec_capacity}
use Rattle.zio_book.specs.Rule.{idle}
use Rattle.zio_book.specs.Books.{IsNewPass, first_state, table_of}
use Rattle.zio_book.proofs.book.Book.deal.Given as goal

abbrev pub invariant-loop : goal.invariant-loop
invariant-loop g l =
    (l.all.table_id ≡ table_of l.self) × (l.all.me ≡ (idle (l.passes - l.counter) [] [] (Some (first_state l.self)), [])) × (length l.team.items ≡ l.counter) × (l.passes ≤ vec_capacity l.team)
    × All (IsNewPass l.self) l.team.items

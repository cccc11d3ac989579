use Rattle.std.proofs.Common.{◌≡◌, ℕ, ◌+◌, List, length, All}
use Rattle.zio_book.specs.declared.book.Pass.{Pass}
use Rattle.zio_book.specs.History.{times, total}
use Rattle.zio_book.specs.Books.{IsSeatOf, IsPassOf, StandsAt, acts_of, passes_of}
use Rattle.zio_book.proofs.book.Book.gather.Given as goal

abbrev pub invariant-loop-seat : goal.invariant-loop-seat
invariant-loop-seat g l =
    IsSeatOf l.self l.all.me.0.passes l.all × (l.all.me.0.passes + length l.passes.items ≡ passes_of l.self) × All (IsPassOf l.self) l.passes.items
    × ((k : ℕ) → times k l.all.me.0.acts + total (λ (p : Pass g.row.H.Denot g.row.H-Cmd.Denot g.row.H-Reply.Denot g.row.H-Note.Denot). times k (acts_of p)) l.passes.items
    ≡ total (λ (p : Pass g.row.H.Denot g.row.H-Cmd.Denot g.row.H-Reply.Denot g.row.H-Note.Denot). times k (acts_of p)) l.fn.passes.items)
    × ((log : List g.row.H-Note.Denot) → StandsAt log l.all.me.0.acts → All (λ (p : Pass g.row.H.Denot g.row.H-Cmd.Denot g.row.H-Reply.Denot g.row.H-Note.Denot). StandsAt log (acts_of p)) l.passes.items
    → All (λ (p : Pass g.row.H.Denot g.row.H-Cmd.Denot g.row.H-Reply.Denot g.row.H-Note.Denot). StandsAt log (acts_of p)) l.fn.passes.items)

abbrev pub decreases-loop-seat : goal.decreases-loop-seat
decreases-loop-seat g l = length l.passes.items

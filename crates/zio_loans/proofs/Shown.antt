-- What a loan shows, as it is handed on.
use Rattle.std.proofs.Common.{ℕ, ◌∙◌}
use Rattle.atomic_table.specs.Seated.{TableId}
use Rattle.atomic_table.specs.declared.badge.Badge.{Badge}
use Rattle.zio_loans.specs.declared.view.View.{View}
use Rattle.zio_loans.specs.Lending.{IsSameLoan, Shows}

pub same_loan : {T : Type 0} (table : TableId) (old new : Badge (View T)) (n : ℕ) (x : T) → IsSameLoan old new → Shows table old n x → Shows table new n x
same_loan table old new n x same shows = record { own = same.0 ∙ shows.own; view = same.1 ∙ shows.view }

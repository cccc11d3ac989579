-- What a contract sees of loans: which they are, who lends, and what a loan shows.
use Rattle.std.specs.Prelude.{◌≡◌, ℕ, List, [], ◌∷◌, Option}
use Rattle.atomic_table.specs.Seated.{TableId}
use Rattle.atomic_table.specs.declared.badge.Badge.{Badge}
use Rattle.atomic_table.specs.declared.shared.Seat.{Seat}
use Rattle.zio_loans.specs.declared.loans.Loans.{Loans}
use Rattle.zio_loans.specs.declared.view.View.{View}
use Rattle.zio_loans.specs.Rule.{lender, holder}

module _ {T : Type 0} where
  -- the loans' own table
  abbrev pub table_of : Loans T → TableId
  table_of loans = loans.table.shared.table_id

  -- all that a seat lent so far, by number, with `None` for what came back
  abbrev pub lent_by : Seat T (View T) → List (Option T)
  lent_by seat = seat.me.0.out

  -- the seat lends over this table, and has no loan in hand
  pub record IsLender (table : TableId) (seat : Seat T (View T)) : Type 0 where
    pub own : seat.table_id ≡ table
    pub view : seat.me ≡ (lender (lent_by seat), [])

  -- the loan is of this table and shows that this value was lent under this number
  pub record Shows (table : TableId) (loan : Badge (View T)) (number : ℕ) (value : T) : Type 0 where
    pub own : loan.table_id ≡ table
    pub view : loan.views ≡ holder ((number, value) ∷ []) ∷ []

  -- the loan shows something that was lent over this table
  abbrev pub IsLoan : TableId → Badge (View T) → Type 0
  IsLoan table loan = (number : ℕ) × (value : T) × Shows table loan number value

  -- the second loan shows what the first showed
  abbrev pub IsSameLoan : Badge (View T) → Badge (View T) → Type 0
  IsSameLoan old new = (new.table_id ≡ old.table_id) × (new.views ≡ old.views)

use Rattle.std.proofs.Common.{arith, ◌∙◌}
use Rattle.zio_loans.proofs.Seats.{joins}
use Rattle.zio_loans.proofs.loans.Loans.take_in.Goals as goal

pub join_seat-requires : goal.join_seat-requires
join_seat-requires g c = (
  c.requires.table.0,
  c.into_seat.ensures.0 ∙ c.requires.table.1,
  c.into_seat.ensures.3,
  (let wide = c.args.self.now.sized in omega arith),
  joins _ _ _ _,
)

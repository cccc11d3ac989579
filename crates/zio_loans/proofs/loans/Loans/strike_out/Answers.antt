use Rattle.std.proofs.Common.{arith}
use Rattle.zio_loans.proofs.Seats.{settles}
use Rattle.zio_loans.proofs.loans.Loans.strike_out.Goals as goal

pub load-requires : goal.load-requires
load-requires g c = (c.requires.table, (let wide = c.args.self.now.sized in omega arith), settles _ _ c.args.seat.now.me c.requires.hand.0 c.requires.hand.1 c.requires.hand.2)

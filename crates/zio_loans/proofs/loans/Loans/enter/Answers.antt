use Rattle.std.proofs.Common.{arith}
use Rattle.zio_loans.proofs.Seats.{lends}
use Rattle.zio_loans.proofs.loans.Loans.enter.Goals as goal

pub compare_exchange_with-requires : goal.compare_exchange_with-requires
compare_exchange_with-requires g c = (c.requires.own, (let wide = c.args.self.now.sized in omega arith), lends _ _ c.args.seat.now.me c.args.value.now c.requires.view)

use Rattle.std.proofs.Common.{arith}
use Rattle.zio_loans.proofs.Seats.{cuts}
use Rattle.zio_loans.proofs.loans.Loans.cut_off.Goals as goal

pub split_seat-requires : goal.split_seat-requires
split_seat-requires g c = (c.requires, (let wide = c.args.self.now.sized in omega arith), cuts _ _)

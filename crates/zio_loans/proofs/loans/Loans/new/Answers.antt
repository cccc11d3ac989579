use Rattle.zio_loans.proofs.Seats.{starts}
use Rattle.zio_loans.proofs.loans.Loans.new.Goals as goal

pub of_words-requires : goal.of_words-requires
of_words-requires g c = starts

use Rattle.zio_trace.proofs.RoundTouches.{entries_of_round}
use Rattle.zio_trace.proofs.WentOn.{went_on_settled}
use Rattle.zio_trace.proofs.together.rounds_that_went_on_are_settled.Goals as goal

pub returns-clause-settled : goal.returns-clause-settled
returns-clause-settled c = went_on_settled

pub returns-clause-of_this_round : goal.returns-clause-of_this_round
returns-clause-of_this_round c = entries_of_round

use Rattle.zio_trace.proofs.ViewLemmas.{behind_answer, stand_answered, stand_more, stand_nth}
use Rattle.zio_trace.proofs.views.operations_that_are_out_stand_first.Goals as goal

pub returns : goal.returns
returns c = record { nth = stand_nth; more = stand_more; answered = stand_answered; behind = behind_answer }

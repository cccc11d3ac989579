use Rattle.zio_trace.proofs.RoundDone.{settled_in_any_order}
use Rattle.zio_trace.proofs.rounds.rounds_are_settled_in_any_order.Goals as goal

pub returns : goal.returns
returns c = settled_in_any_order

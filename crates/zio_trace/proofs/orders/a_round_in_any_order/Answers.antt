use Rattle.zio_trace.proofs.WholeRound.{round_is_settled}
use Rattle.zio_trace.proofs.orders.a_round_in_any_order.Goals as goal

pub returns : goal.returns
returns c = round_is_settled

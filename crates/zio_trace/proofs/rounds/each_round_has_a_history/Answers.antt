use Rattle.zio_trace.proofs.TurnLemmas.{round_in_turn}
use Rattle.zio_trace.proofs.rounds.each_round_has_a_history.Goals as goal

pub returns : goal.returns
returns c = round_in_turn

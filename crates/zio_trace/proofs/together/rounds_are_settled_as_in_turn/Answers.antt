use Rattle.zio_trace.proofs.TogetherEnds.{round_as_in_turn}
use Rattle.zio_trace.proofs.TogetherDone.{done_as_in_turn}
use Rattle.zio_trace.proofs.together.rounds_are_settled_as_in_turn.Goals as goal

pub returns : goal.returns
returns c = λ j w f values history before after entries trees tasks well done have pass recorded distinct lawful of_round. round_as_in_turn j w f values before after entries trees tasks (done_as_in_turn j w values history before after entries well done have pass recorded distinct lawful of_round)

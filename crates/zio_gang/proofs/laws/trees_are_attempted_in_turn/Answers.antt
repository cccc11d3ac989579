use Rattle.zio_gang.proofs.AttemptLemmas.{attempt_each-append}
use Rattle.zio_gang.proofs.laws.trees_are_attempted_in_turn.Goals as goal

pub returns : goal.returns
returns c = attempt_each-append

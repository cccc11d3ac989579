use Rattle.zio_turns.proofs.Requeue.{none_held, no_load, round_first}
use Rattle.zio_turns.proofs.turns.Turns.new.Goals as goal

pub returns-clause-begins : goal.returns-clause-begins
returns-clause-begins g c = λ t sizes f before images sound is.
    round_first g.N.NodeFacts.nodes t sizes f before images c.new.result c.new-2.result sound is c.new.ensures.empty c.new-2.ensures

pub returns-clause-load : goal.returns-clause-load
returns-clause-load g c = no_load g.N.NodeFacts.nodes.left c.new.result c.new-2.result c.new.ensures.empty c.new-2.ensures

pub returns-clause-over : goal.returns-clause-over
returns-clause-over g c = λ tops. none_held (g.N.Staged.over tops) c.new.result c.new.ensures.empty

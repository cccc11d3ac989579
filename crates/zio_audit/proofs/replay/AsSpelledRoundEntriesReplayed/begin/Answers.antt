use Rattle.zio_places.specs.Spaces.{used}
use Rattle.zio_audit.proofs.ReplayedLemmas.{chosen_may}
use Rattle.zio_audit.proofs.replay.AsSpelledRoundEntriesReplayed.begin.Goals as goal

pub returns-clause-strange : goal.returns-clause-strange
returns-clause-strange g c = λ is t terms trees before chose.
    c.begin_round.ensures.strange is (chosen_may g.K.Spelled.journals c.args.round c.args.chooser.now.space.sizes (used c.args.chooser.now.space) t trees before terms chose)

use Rattle.zio_counts.proofs.TallyLemmas.{shows_child, shows_machine}
use Rattle.zio_counts.proofs.laws.every_tally_shows_a_machine.Goals as goal

pub returns : goal.returns
returns c = record { machine = shows_machine; child = shows_child }

use Rattle.zio_heal.proofs.ReadyAfter.{round_law}
use Rattle.zio_heal.proofs.laws.rounds_end_as_safely_as_they_start.Goals as goal

pub returns : goal.returns
returns c = round_law

use Rattle.zio_trace.proofs.RoundEnds.{settled_by_entries}
use Rattle.zio_trace.proofs.rounds.rounds_are_settled_by_their_entries.Goals as goal

pub returns : goal.returns
returns c = settled_by_entries

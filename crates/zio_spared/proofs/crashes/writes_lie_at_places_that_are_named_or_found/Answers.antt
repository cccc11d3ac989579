use Rattle.zio_spared.proofs.WritesWithin.{writes_within}
use Rattle.zio_spared.proofs.crashes.writes_lie_at_places_that_are_named_or_found.Goals as goal

pub returns : goal.returns
returns c = writes_within

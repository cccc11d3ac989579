-- What a node ends with, where what finished has this crate's seal.
use Rattle.zio_exchange.specs.declared.outcome.Outcome.{Outcome as OutcomeUnder}
use Rattle.zio_stages.specs.declared.closing.Seal.{Seal}

abbrev pub Outcome : Type 0
Outcome = OutcomeUnder Seal

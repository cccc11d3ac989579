-- What a request may hear of a child of its own work.
use Rattle.zio_stages.specs.Sealed.{Outcome}
use Rattle.zio_exchange.specs.declared.outcome.Outcome.TheVariants.{Again, Finished, Found, Stored, Walked}

-- it isn't what the attempt of a tree ends with
abbrev pub IsOwnOutcome : Outcome → Type 0
IsOwnOutcome (Finished f) = ⊥
IsOwnOutcome (Again whole bits pointer) = ⊥
IsOwnOutcome (Found answer) = Unit {0}
IsOwnOutcome (Walked walked) = Unit {0}
IsOwnOutcome (Stored part) = Unit {0}

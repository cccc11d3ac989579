use Rattle.std.proofs.Common.{◌-◌, length}
use Rattle.zio_spelled.proofs.take.+places_onto.Given as goal

abbrev pub decreases-places_onto : goal.decreases-places_onto
decreases-places_onto l = 3 - length l.entry.places

use Rattle.zio_places.proofs.SetLemmas.{all_placed-same, given_back-set}
use Rattle.zio_places.proofs.laws.live_places_are_a_set.Goals as goal

pub returns : goal.returns
returns c = record { placed = all_placed-same; given_back = given_back-set }

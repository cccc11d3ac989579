use Rattle.zio_spared.proofs.ExampleMoves.{first_written, repairs_first}
use Rattle.zio_spared.proofs.ExampleSound.{example_sound, piece_named, some_good}
use Rattle.zio_spared.proofs.examples.a_repair_in_flight_spares_the_good_copy.Goals as goal

pub returns : goal.returns
returns c = record { round = example_sound; piece = piece_named; good = some_good; second = repairs_first; not_first = first_written }

use Rattle.zio_spared.proofs.ExampleTurned.{first_good, second_bad, turned_case}
use Rattle.zio_spared.proofs.examples.a_row_that_turns_bytes_spares_no_copy.Goals as goal

pub returns : goal.returns
returns c = record { good = first_good; only = second_bad; deeds = turned_case }

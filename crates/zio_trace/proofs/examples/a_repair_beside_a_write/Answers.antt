use Rattle.zio_trace.proofs.ExampleCases.{turn_case, between_case, not_case}
use Rattle.zio_trace.proofs.examples.a_repair_beside_a_write.Goals as goal

pub returns : goal.returns
returns c = record { in_turn = turn_case; between = between_case; not_before = not_case }

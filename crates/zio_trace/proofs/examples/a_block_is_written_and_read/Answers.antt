use Rattle.zio_trace.proofs.TraceCases.{pieces_case, written_case}
use Rattle.zio_trace.proofs.examples.a_block_is_written_and_read.Goals as goal

pub returns : goal.returns
returns c = record { singles = written_case; pieces = pieces_case }

use Rattle.zio_trace.proofs.CopyLemmas.{piece_run}
use Rattle.zio_trace.proofs.copies.pieces_are_written_by_programs.Goals as goal

pub returns : goal.returns
returns c = piece_run

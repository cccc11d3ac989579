use Rattle.zio_trace.proofs.CopyLemmas.{place_run, pass_run, block_run}
use Rattle.zio_trace.proofs.copies.copies_are_read_by_programs.Goals as goal

pub returns : goal.returns
returns c = record { place = place_run; pass = pass_run; block = block_run }

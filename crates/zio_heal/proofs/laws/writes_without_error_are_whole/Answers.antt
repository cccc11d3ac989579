use Rattle.zio_heal.proofs.SparedLemmas.{written_law}
use Rattle.zio_heal.proofs.WholeLemmas.{made_whole, pointer_law, trace_whole}
use Rattle.zio_heal.proofs.laws.writes_without_error_are_whole.Goals as goal

pub returns : goal.returns
returns c = record { made = made_whole; traces = trace_whole; pointer = pointer_law; last = written_law }

use Rattle.zio_heal.proofs.FoundLemmas.{first_law, found_law}
use Rattle.zio_heal.proofs.FoundTraces.{reads_law}
use Rattle.zio_heal.proofs.laws.copies_are_found_once_faults_are_past.Goals as goal

pub returns : goal.returns
returns c = record { first = first_law; read = found_law; traces = reads_law }

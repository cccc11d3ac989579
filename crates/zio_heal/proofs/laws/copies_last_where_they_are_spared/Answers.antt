use Rattle.zio_heal.proofs.RepairLemmas.{same_law}
use Rattle.zio_heal.proofs.SparedLemmas.{spared_law}
use Rattle.zio_heal.proofs.laws.copies_last_where_they_are_spared.Goals as goal

pub returns : goal.returns
returns c = record { same = same_law; traces = spared_law }

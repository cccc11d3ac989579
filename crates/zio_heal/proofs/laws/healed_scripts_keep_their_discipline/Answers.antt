use Rattle.zio_heal.proofs.RunLemmas.{ended_law, past_law, starts_law, stores_law}
use Rattle.zio_heal.proofs.laws.healed_scripts_keep_their_discipline.Goals as goal

pub returns : goal.returns
returns c = record { starts = starts_law; ended = ended_law; stores = stores_law; past = past_law }

use Rattle.zio_heal.proofs.CopyLemmas.{outside_law, reads_keep, writes_keep}
use Rattle.zio_heal.proofs.laws.copies_stay_while_others_change.Goals as goal

pub returns : goal.returns
returns c = record { outside = outside_law; reads = reads_keep; writes = writes_keep }

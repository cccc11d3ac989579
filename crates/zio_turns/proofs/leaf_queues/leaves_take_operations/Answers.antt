use Rattle.zio_turns.proofs.HandedLemmas.{ends_on, fits_queue, shows_some, waits_under}
use Rattle.zio_turns.proofs.leaf_queues.leaves_take_operations.Goals as goal

pub returns-clause-fits : goal.returns-clause-fits
returns-clause-fits c = λ tops act op leaf bytes h ends short. fits_queue tops act op leaf bytes h ends short

pub returns-clause-ends : goal.returns-clause-ends
returns-clause-ends c = λ sizes act op leaf bytes h l. ends_on sizes act op leaf bytes h l

pub returns-clause-waits : goal.returns-clause-waits
returns-clause-waits c = λ sizes act op leaf key bytes h l. waits_under sizes act op leaf key bytes h l

pub returns-clause-shows : goal.returns-clause-shows
returns-clause-shows c = λ act error bytes. shows_some act error bytes

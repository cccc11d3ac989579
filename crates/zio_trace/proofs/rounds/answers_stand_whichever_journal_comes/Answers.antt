use Rattle.zio_trace.proofs.EntryLemmas.{answered_whichever, entries_may_come}
use Rattle.zio_trace.proofs.rounds.answers_stand_whichever_journal_comes.Goals as goal

pub returns : goal.returns
returns c = record { answered = answered_whichever; entries = entries_may_come }

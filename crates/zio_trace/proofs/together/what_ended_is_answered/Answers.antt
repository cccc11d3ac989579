use Rattle.zio_trace.proofs.WentOn.{went_on_answered, went_on_by_journal}
use Rattle.zio_trace.proofs.together.what_ended_is_answered.Goals as goal

pub returns-clause-whatever : goal.returns-clause-whatever
returns-clause-whatever c = went_on_answered

pub returns-clause-by_journal : goal.returns-clause-by_journal
returns-clause-by_journal c = went_on_by_journal

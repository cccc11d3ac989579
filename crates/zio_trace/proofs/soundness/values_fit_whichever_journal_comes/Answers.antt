use Rattle.zio_trace.proofs.ValueFits.{value_fits, value_left}
use Rattle.zio_trace.proofs.soundness.values_fit_whichever_journal_comes.Goals as goal

pub returns-clause-fits : goal.returns-clause-fits
returns-clause-fits c = λ w before s x others v journal under is ended.
    value_fits w before s x others v under is ended journal

pub returns-clause-left : goal.returns-clause-left
returns-clause-left c = λ w before s x others v under is ended. value_left w before s x others v under is ended

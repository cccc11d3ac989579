use Rattle.zio_audit.proofs.AnswerLemmas.{one_verdict, run_yes, yes_run}
use Rattle.zio_audit.proofs.laws.verdicts_are_one.Goals as goal

pub returns : goal.returns
returns c = record { yes = λ c. (yes_run c, run_yes c); one = one_verdict }

use Rattle.zio_spelled.specs.Rounds.{lines_of_rounds}
use Rattle.zio_audit.specs.Journals.{journals_from}
use Rattle.zio_audit.proofs.auditing.audit_script.Given as goal

abbrev pub ghosts-judge_run : goal.ghosts-judge_run
ghosts-judge_run a = record { journals = journals_from a.sizes.now 1 (lines_of_rounds a.report.now) }

use Rattle.zio_audit.proofs.WorkedRuns.{child_comes_first, report_with_bytes_is_yes, report_without_bytes_is_yes, true_report_is_yes}
use Rattle.zio_audit.proofs.cases.true_reports_are_yes.Goals as goal

pub returns : goal.returns
returns c = record {
  write = true_report_is_yes;
  without_bytes = report_without_bytes_is_yes;
  with_bytes = report_with_bytes_is_yes;
  child_comes_first = child_comes_first;
}

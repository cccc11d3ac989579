use Rattle.zio_heal.proofs.DisciplineCasesProofs.{bad_child_isnt, claim_may_fail, flagged_read_may, good_child_is_kept, read_may_not_fail}
use Rattle.zio_heal.proofs.cases.flags_and_kinds_let_requests_fail.Goals as goal

pub returns : goal.returns
returns c = record {
  read_may_not_fail = read_may_not_fail;
  flagged_read_may = flagged_read_may;
  claim_may_fail = claim_may_fail;
  good_child_is_kept = good_child_is_kept;
  bad_child_isnt = bad_child_isnt;
}

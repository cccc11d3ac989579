use Rattle.zio_heal.proofs.StoredCasesProofs.{content_is_another, fault_heals, lasting_fault_leaves, name_is_left_over, no_content_isnt_alike, reply_is_missing, request_didnt_end, same_without_fault, unread_isnt_alike}
use Rattle.zio_heal.proofs.cases.runs_store_plainly.Goals as goal

pub returns : goal.returns
returns c = record {
  fault_heals = fault_heals;
  same_without_fault = same_without_fault;
  lasting_fault_leaves = lasting_fault_leaves;
  reply_is_missing = reply_is_missing;
  request_didnt_end = request_didnt_end;
  name_is_left_over = name_is_left_over;
  content_is_another = content_is_another;
  unread_isnt_alike = unread_isnt_alike;
  no_content_isnt_alike = no_content_isnt_alike;
}

use Rattle.zio_worked.proofs.CompletionCases.{all_complete, number_twice, child_after_parent, one_is_missing, other_error, other_round, suspended_are_left, suspended_completes, each_in_its_round, answered_complete, round_that_was_not_run}
use Rattle.zio_worked.proofs.completions.completions_tell_what_finished.Goals as goal

pub returns : goal.returns
returns c = record {
  all_complete = all_complete;
  number_twice = number_twice;
  child_after_parent = child_after_parent;
  one_is_missing = one_is_missing;
  other_error = other_error;
  other_round = other_round;
  suspended_are_left = suspended_are_left;
  suspended_completes = suspended_completes;
  each_in_its_round = each_in_its_round;
  answered_complete = answered_complete;
  round_that_was_not_run = round_that_was_not_run;
}

use Rattle.zio_worked.proofs.SuspensionCases.{fourth_attempt_suspends, four_attempts_ask, waiting_comes_first, waiting_asks_once, next_batch_is_held, next_batch_goes_on, panic_ends_the_run, clear_resumes, clear_raises_the_point, suspended_trees_share_a_round, second_batch_stays_held, second_clear_runs_the_rest, no_space_suspends, no_space_asks_once, no_space_fails, freed_space_serves_later, free_waits, free_fails, read_goes_again_with_its_child, child_under_a_bad_read_asks_four_times, block_of_the_second_suspended_tree_is_kept}
use Rattle.zio_worked.proofs.suspension.suspended_trees_wait_for_a_clear.Goals as goal

pub returns : goal.returns
returns c = record {
  fourth_attempt_suspends = fourth_attempt_suspends;
  four_attempts_ask = four_attempts_ask;
  waiting_comes_first = waiting_comes_first;
  waiting_asks_once = waiting_asks_once;
  next_batch_is_held = next_batch_is_held;
  next_batch_goes_on = next_batch_goes_on;
  panic_ends_the_run = panic_ends_the_run;
  clear_resumes = clear_resumes;
  clear_raises_the_point = clear_raises_the_point;
  suspended_trees_share_a_round = suspended_trees_share_a_round;
  second_batch_stays_held = second_batch_stays_held;
  second_clear_runs_the_rest = second_clear_runs_the_rest;
  no_space_suspends = no_space_suspends;
  no_space_asks_once = no_space_asks_once;
  no_space_fails = no_space_fails;
  freed_space_serves_later = freed_space_serves_later;
  free_waits = free_waits;
  free_fails = free_fails;
  read_goes_again_with_its_child = read_goes_again_with_its_child;
  child_under_a_bad_read_asks_four_times = child_under_a_bad_read_asks_four_times;
  block_of_the_second_suspended_tree_is_kept = block_of_the_second_suspended_tree_is_kept;
}

use Rattle.zio_worked.proofs.FamilyCases.{write_over_two_writes, pointers_stand_in_front, writes_nest, child_goes_again, finished_child_is_kept, null_over_bad_read, null_over_gone_read, null_over_gone_read_goes_on, child_error_binds_nothing, zeros_for_no_place, unwritten_child_fails, unwritten_child_has_pointer, must_child_holds_parent, children_come_first, families_are_apart, each_attempt_has_its_pointers}
use Rattle.zio_worked.proofs.families.families_finish_together.Goals as goal

pub returns : goal.returns
returns c = record {
  write_over_two_writes = write_over_two_writes;
  pointers_stand_in_front = pointers_stand_in_front;
  writes_nest = writes_nest;
  child_goes_again = child_goes_again;
  finished_child_is_kept = finished_child_is_kept;
  null_over_bad_read = null_over_bad_read;
  null_over_gone_read = null_over_gone_read;
  null_over_gone_read_goes_on = null_over_gone_read_goes_on;
  child_error_binds_nothing = child_error_binds_nothing;
  zeros_for_no_place = zeros_for_no_place;
  unwritten_child_fails = unwritten_child_fails;
  unwritten_child_has_pointer = unwritten_child_has_pointer;
  must_child_holds_parent = must_child_holds_parent;
  children_come_first = children_come_first;
  families_are_apart = families_are_apart;
  each_attempt_has_its_pointers = each_attempt_has_its_pointers;
}

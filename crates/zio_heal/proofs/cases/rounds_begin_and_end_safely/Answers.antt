use Rattle.zio_heal.proofs.SafeCasesProofs.{child_is_in_front, found_zeros_arent, gave_content, gave_error, gave_other, idle_ends_safely, idle_starts_safely, made_nothing, nothing_doesnt, orphan_is_left, other_content_isnt, parent_in_front_hasnt, pointer_fits, read_and_free_dont, read_has_its_block, read_of_nobody_hasnt, two_names_arent, two_reads_share, unused_doesnt, write_of_bound_may_not, x_is_safe, zeros_are_safe}
use Rattle.zio_heal.proofs.cases.rounds_begin_and_end_safely.Goals as goal

pub returns : goal.returns
returns c = record {
  zeros_are_safe = zeros_are_safe;
  found_zeros_arent = found_zeros_arent;
  x_is_safe = x_is_safe;
  other_content_isnt = other_content_isnt;
  two_names_arent = two_names_arent;
  read_has_its_block = read_has_its_block;
  read_of_nobody_hasnt = read_of_nobody_hasnt;
  write_of_bound_may_not = write_of_bound_may_not;
  pointer_fits = pointer_fits;
  nothing_doesnt = nothing_doesnt;
  child_is_in_front = child_is_in_front;
  parent_in_front_hasnt = parent_in_front_hasnt;
  two_reads_share = two_reads_share;
  read_and_free_dont = read_and_free_dont;
  gave_content = gave_content;
  gave_other = gave_other;
  gave_error = gave_error;
  made_nothing = made_nothing;
  idle_starts_safely = idle_starts_safely;
  unused_doesnt = unused_doesnt;
  idle_ends_safely = idle_ends_safely;
  orphan_is_left = orphan_is_left;
}

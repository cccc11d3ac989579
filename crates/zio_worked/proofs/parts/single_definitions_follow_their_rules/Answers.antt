use Rattle.zio_worked.proofs.PartCases.{entry_answers_its_own_ask, worst_error_of_a_free_counts, failed_header_keeps_bodies_unread, summary_counts, summary_shows_no_round, each_round_shows_its_own_journal, birth_is_the_batch, header_is_for_its_first_place_and_birth, suspended_trees_go_by_number, failed_free_keeps_its_name, worst_error_of_a_place_counts, bits_of_all_children_count, held_batch_is_left, headers_are_kept_by_path, header_that_isnt_kept_is_bad, trees_stand_by_their_roots, paths_have_points, each_member_has_its_path, top_has_whole_units, reads_answer_by_the_kind_of_their_row, writes_answer_by_the_kind_of_their_row, failed_request_keeps_no_block, bytes_over_a_failed_child_dont_count}
use Rattle.zio_worked.proofs.parts.single_definitions_follow_their_rules.Goals as goal

pub returns : goal.returns
returns c = record {
  entry_answers_its_own_ask = entry_answers_its_own_ask;
  worst_error_of_a_free_counts = worst_error_of_a_free_counts;
  failed_header_keeps_bodies_unread = failed_header_keeps_bodies_unread;
  summary_counts = summary_counts;
  summary_shows_no_round = summary_shows_no_round;
  each_round_shows_its_own_journal = each_round_shows_its_own_journal;
  birth_is_the_batch = birth_is_the_batch;
  header_is_for_its_first_place_and_birth = header_is_for_its_first_place_and_birth;
  suspended_trees_go_by_number = suspended_trees_go_by_number;
  failed_free_keeps_its_name = failed_free_keeps_its_name;
  worst_error_of_a_place_counts = worst_error_of_a_place_counts;
  bits_of_all_children_count = bits_of_all_children_count;
  held_batch_is_left = held_batch_is_left;
  headers_are_kept_by_path = headers_are_kept_by_path;
  header_that_isnt_kept_is_bad = header_that_isnt_kept_is_bad;
  trees_stand_by_their_roots = trees_stand_by_their_roots;
  paths_have_points = paths_have_points;
  each_member_has_its_path = each_member_has_its_path;
  top_has_whole_units = top_has_whole_units;
  reads_answer_by_the_kind_of_their_row = reads_answer_by_the_kind_of_their_row;
  writes_answer_by_the_kind_of_their_row = writes_answer_by_the_kind_of_their_row;
  failed_request_keeps_no_block = failed_request_keeps_no_block;
  bytes_over_a_failed_child_dont_count = bytes_over_a_failed_child_dont_count;
}

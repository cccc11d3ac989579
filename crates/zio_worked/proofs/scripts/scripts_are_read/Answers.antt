use Rattle.zio_worked.proofs.ScriptCases.{top_alone_is_a_script, whole_script_is_read, tops_have_units, roots_have_their_flags, children_have_their_flags, bodies_are_read, blanks_part_words, edges_are_accepted, reads_may_share_a_block, others_are_accepted, words_have_to_fit, other_lines_have_to_fit, numbers_are_decimal, digits_come_in_pairs, sector_may_be_a_leaf, lines_may_have_two_shapes, numbers_have_ranges, faults_have_ranges, tops_are_counted, faults_are_counted, clears_are_counted, requests_are_counted, pointers_take_room, sizes_are_padded, batch_has_a_limit, long_texts_are_refused, lines_have_an_order, numbers_rise, batches_are_ended, names_have_their_characters, names_stand_once, rows_may_tell_reads_apart, flags_follow_parents, only_a_parent_is_wrong, parents_stand_before, claims_stand_alone, depth_has_a_limit, children_are_counted, tops_are_wanted, leaves_stand_once, skipped_lines_are_counted, first_line_counts, least_why_counts}
use Rattle.zio_worked.proofs.scripts.scripts_are_read.Goals as goal

pub returns : goal.returns
returns c = record {
  top_alone_is_a_script = top_alone_is_a_script;
  whole_script_is_read = whole_script_is_read;
  tops_have_units = tops_have_units;
  roots_have_their_flags = roots_have_their_flags;
  children_have_their_flags = children_have_their_flags;
  bodies_are_read = bodies_are_read;
  blanks_part_words = blanks_part_words;
  edges_are_accepted = edges_are_accepted;
  reads_may_share_a_block = reads_may_share_a_block;
  others_are_accepted = others_are_accepted;
  words_have_to_fit = words_have_to_fit;
  other_lines_have_to_fit = other_lines_have_to_fit;
  numbers_are_decimal = numbers_are_decimal;
  digits_come_in_pairs = digits_come_in_pairs;
  sector_may_be_a_leaf = sector_may_be_a_leaf;
  lines_may_have_two_shapes = lines_may_have_two_shapes;
  numbers_have_ranges = numbers_have_ranges;
  faults_have_ranges = faults_have_ranges;
  tops_are_counted = tops_are_counted;
  faults_are_counted = faults_are_counted;
  clears_are_counted = clears_are_counted;
  requests_are_counted = requests_are_counted;
  pointers_take_room = pointers_take_room;
  sizes_are_padded = sizes_are_padded;
  batch_has_a_limit = batch_has_a_limit;
  long_texts_are_refused = long_texts_are_refused;
  lines_have_an_order = lines_have_an_order;
  numbers_rise = numbers_rise;
  batches_are_ended = batches_are_ended;
  names_have_their_characters = names_have_their_characters;
  names_stand_once = names_stand_once;
  rows_may_tell_reads_apart = rows_may_tell_reads_apart;
  flags_follow_parents = flags_follow_parents;
  only_a_parent_is_wrong = only_a_parent_is_wrong;
  parents_stand_before = parents_stand_before;
  claims_stand_alone = claims_stand_alone;
  depth_has_a_limit = depth_has_a_limit;
  children_are_counted = children_are_counted;
  tops_are_wanted = tops_are_wanted;
  leaves_stand_once = leaves_stand_once;
  skipped_lines_are_counted = skipped_lines_are_counted;
  first_line_counts = first_line_counts;
  least_why_counts = least_why_counts;
}

use Rattle.zio_worked.proofs.FormatCases.{pointer_of_one_place, pointer_in_hexadecimal, largest_pointer_is_spelled, largest_pointer_is_read, pointer_of_fletcher4_is_read, pointer_of_three_runs_is_read, fixed_fields_are_fixed, sizes_have_to_fit, places_are_rounded_up, other_roundings_are_refused, places_have_to_fit, words_without_a_checksum_may_be_any, length_has_to_fit, fletcher4_of_ones, fletcher4_of_short_bytes, fletcher4_wraps, sha256_of_abc, sha256_of_two_blocks, sha256_of_nothing, off_checks_nothing, bytes_fit_their_sum, other_words_dont_fit, split_in_at_most_three, header_sum_has_place_and_birth, header_sum_is_sha256, header_has_its_magic}
use Rattle.zio_worked.proofs.formats.formats_are_spelled.Goals as goal

pub returns : goal.returns
returns c = record {
  pointer_of_one_place = pointer_of_one_place;
  pointer_in_hexadecimal = pointer_in_hexadecimal;
  largest_pointer_is_spelled = largest_pointer_is_spelled;
  largest_pointer_is_read = largest_pointer_is_read;
  pointer_of_fletcher4_is_read = pointer_of_fletcher4_is_read;
  pointer_of_three_runs_is_read = pointer_of_three_runs_is_read;
  fixed_fields_are_fixed = fixed_fields_are_fixed;
  sizes_have_to_fit = sizes_have_to_fit;
  places_are_rounded_up = places_are_rounded_up;
  other_roundings_are_refused = other_roundings_are_refused;
  places_have_to_fit = places_have_to_fit;
  words_without_a_checksum_may_be_any = words_without_a_checksum_may_be_any;
  length_has_to_fit = length_has_to_fit;
  fletcher4_of_ones = fletcher4_of_ones;
  fletcher4_of_short_bytes = fletcher4_of_short_bytes;
  fletcher4_wraps = fletcher4_wraps;
  sha256_of_abc = sha256_of_abc;
  sha256_of_two_blocks = sha256_of_two_blocks;
  sha256_of_nothing = sha256_of_nothing;
  off_checks_nothing = off_checks_nothing;
  bytes_fit_their_sum = bytes_fit_their_sum;
  other_words_dont_fit = other_words_dont_fit;
  split_in_at_most_three = split_in_at_most_three;
  header_sum_has_place_and_birth = header_sum_has_place_and_birth;
  header_sum_is_sha256 = header_sum_is_sha256;
  header_has_its_magic = header_has_its_magic;
}

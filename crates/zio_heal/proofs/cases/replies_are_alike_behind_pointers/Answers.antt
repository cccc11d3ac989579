use Rattle.zio_heal.proofs.AlikeCasesProofs.{bytes_for_error, bytes_of_a_read, equal_is_alike, error_for_bytes, every_byte_counts, length_counts, next_pointer_counts, no_byte_more, other_bytes, other_error, other_number, other_size, pointers_may_differ, same_error, size_of_a_write}
use Rattle.zio_heal.proofs.cases.replies_are_alike_behind_pointers.Goals as goal

pub returns : goal.returns
returns c = record {
  pointers_may_differ = pointers_may_differ;
  no_byte_more = no_byte_more;
  next_pointer_counts = next_pointer_counts;
  every_byte_counts = every_byte_counts;
  equal_is_alike = equal_is_alike;
  length_counts = length_counts;
  size_of_a_write = size_of_a_write;
  other_size = other_size;
  bytes_of_a_read = bytes_of_a_read;
  other_bytes = other_bytes;
  same_error = same_error;
  other_error = other_error;
  error_for_bytes = error_for_bytes;
  bytes_for_error = bytes_for_error;
  other_number = other_number;
}

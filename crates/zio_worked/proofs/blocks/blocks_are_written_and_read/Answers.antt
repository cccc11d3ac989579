use Rattle.zio_worked.proofs.BlockCases.{write_then_read, write_then_read_with_sha256, one_sector_changes, sequence_begins_with_the_first_value, sequence_of_ten_bytes, content_is_padded, whole_sectors_arent_padded, short_body_is_one_sector, zeros_are_read, bytes_are_shown, unbound_name_is_not_found, bound_name_is_not_written_again, freed_name_is_not_found, freed_name_is_written_again, late_batch_runs_after_the_clear, birth_is_the_batch}
use Rattle.zio_worked.proofs.blocks.blocks_are_written_and_read.Goals as goal

pub returns : goal.returns
returns c = record {
  write_then_read = write_then_read;
  write_then_read_with_sha256 = write_then_read_with_sha256;
  one_sector_changes = one_sector_changes;
  sequence_begins_with_the_first_value = sequence_begins_with_the_first_value;
  sequence_of_ten_bytes = sequence_of_ten_bytes;
  content_is_padded = content_is_padded;
  whole_sectors_arent_padded = whole_sectors_arent_padded;
  short_body_is_one_sector = short_body_is_one_sector;
  zeros_are_read = zeros_are_read;
  bytes_are_shown = bytes_are_shown;
  unbound_name_is_not_found = unbound_name_is_not_found;
  bound_name_is_not_written_again = bound_name_is_not_written_again;
  freed_name_is_not_found = freed_name_is_not_found;
  freed_name_is_written_again = freed_name_is_written_again;
  late_batch_runs_after_the_clear = late_batch_runs_after_the_clear;
  birth_is_the_batch = birth_is_the_batch;
}

use Rattle.zio_worked.proofs.UnitCases.{tail_is_zeros, fault_of_the_tail_fails_the_write, fault_of_the_tail_fails_the_read, first_bytes_are_read, flip_of_the_tail_is_stored, one_sector_stands_in_eight, choice_of_a_unit_is_shown, one_sector_is_claimed_in_eight, three_sectors_are_claimed_by_the_unit, places_fit_their_units, each_reader_has_its_line, readers_of_one_block_agree, full_top_suspends_the_next_write, gang_stands_on_tops_of_different_units, readers_keep_earlier_repairs}
use Rattle.zio_worked.proofs.units.units_are_stored_whole.Goals as goal

pub returns : goal.returns
returns c = record {
  tail_is_zeros = tail_is_zeros;
  fault_of_the_tail_fails_the_write = fault_of_the_tail_fails_the_write;
  fault_of_the_tail_fails_the_read = fault_of_the_tail_fails_the_read;
  first_bytes_are_read = first_bytes_are_read;
  flip_of_the_tail_is_stored = flip_of_the_tail_is_stored;
  one_sector_stands_in_eight = one_sector_stands_in_eight;
  choice_of_a_unit_is_shown = choice_of_a_unit_is_shown;
  one_sector_is_claimed_in_eight = one_sector_is_claimed_in_eight;
  three_sectors_are_claimed_by_the_unit = three_sectors_are_claimed_by_the_unit;
  places_fit_their_units = places_fit_their_units;
  each_reader_has_its_line = each_reader_has_its_line;
  readers_of_one_block_agree = readers_of_one_block_agree;
  full_top_suspends_the_next_write = full_top_suspends_the_next_write;
  gang_stands_on_tops_of_different_units = gang_stands_on_tops_of_different_units;
  readers_keep_earlier_repairs = readers_keep_earlier_repairs;
}

use Rattle.zio_heal.proofs.CopyCasesProofs.{failed_read_spares, failed_writes_store_nothing, neighbours_are_elsewhere, no_spot_no_copy, one_byte_meets, ones_arent, other_read_doesnt, row_still_holds, rows_are_past, single_write_doesnt, space_acts_spare, true_read_spares, turned_writes_store_others, write_elsewhere_spares, write_over_it_doesnt, zeros_are_there}
use Rattle.zio_heal.proofs.cases.copies_are_spared_by_what_lies_elsewhere.Goals as goal

pub returns : goal.returns
returns c = record {
  zeros_are_there = zeros_are_there;
  ones_arent = ones_arent;
  no_spot_no_copy = no_spot_no_copy;
  neighbours_are_elsewhere = neighbours_are_elsewhere;
  one_byte_meets = one_byte_meets;
  failed_writes_store_nothing = failed_writes_store_nothing;
  turned_writes_store_others = turned_writes_store_others;
  rows_are_past = rows_are_past;
  row_still_holds = row_still_holds;
  write_elsewhere_spares = write_elsewhere_spares;
  write_over_it_doesnt = write_over_it_doesnt;
  true_read_spares = true_read_spares;
  failed_read_spares = failed_read_spares;
  other_read_doesnt = other_read_doesnt;
  space_acts_spare = space_acts_spare;
  single_write_doesnt = single_write_doesnt;
}

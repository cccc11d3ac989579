use Rattle.zio_heal.proofs.WholeCasesProofs.{ask_may_be_refused, copies_failed, copies_written, leaf_may_fail, part_failed, part_written, read_is_no_write}
use Rattle.zio_heal.proofs.cases.pieces_without_error_are_whole.Goals as goal

pub returns : goal.returns
returns c = record {
  copies_written = copies_written;
  copies_failed = copies_failed;
  part_written = part_written;
  part_failed = part_failed;
  leaf_may_fail = leaf_may_fail;
  ask_may_be_refused = ask_may_be_refused;
  read_is_no_write = read_is_no_write;
}

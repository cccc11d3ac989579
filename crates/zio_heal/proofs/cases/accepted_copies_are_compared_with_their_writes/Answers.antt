use Rattle.zio_heal.proofs.GivenCasesProofs.{all_places_count, bytes_of_nobody_arent, errors_are_true, given_bytes_are_true, headers_are_compared, last_reads_count, last_write_counts, nobody_read_it, nothing_was_given, other_bytes_arent, run_accepts_what_was_given}
use Rattle.zio_heal.proofs.cases.accepted_copies_are_compared_with_their_writes.Goals as goal

pub returns : goal.returns
returns c = record {
  last_write_counts = last_write_counts;
  nothing_was_given = nothing_was_given;
  all_places_count = all_places_count;
  given_bytes_are_true = given_bytes_are_true;
  other_bytes_arent = other_bytes_arent;
  bytes_of_nobody_arent = bytes_of_nobody_arent;
  errors_are_true = errors_are_true;
  headers_are_compared = headers_are_compared;
  run_accepts_what_was_given = run_accepts_what_was_given;
  nobody_read_it = nobody_read_it;
  last_reads_count = last_reads_count;
}

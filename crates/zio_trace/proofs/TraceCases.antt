-- The traces of small runs, evaluated.
use Rattle.std.proofs.Common.{◌≡◌, refl}
use Rattle.zio_gang.specs.Attempts.{attempt_each, settle_from}
use Rattle.zio_gang.specs.Rounds.{settle_each}
use Rattle.zio_gang.specs.Runs.{run_held, run_lines}
use Rattle.zio_gang.specs.Trees.{free_tree, read_tree, walk}
use Rattle.zio_gang.specs.Writes.{place_part}
use Rattle.zio_trace.specs.Conflicts.{is_single}
use Rattle.zio_trace.specs.RoundTraces.{is_single_or_piece}
use Rattle.zio_trace.specs.RunTraces.{trace_of_run}
use Rattle.zio_trace.specs.TraceExamples.{finds_again, finds_x, pieces_of_x, trace_of_both, trace_of_x, two_sectors, written_again, written_and_read}

pub written_case : trace_of_run is_single written_and_read two_sectors finds_x ≡ trace_of_x
unfolding attempt_each settle_from settle_each run_held run_lines walk read_tree free_tree place_part
written_case = refl

pub pieces_case : trace_of_run is_single_or_piece written_and_read two_sectors finds_x ≡ pieces_of_x
unfolding attempt_each settle_from settle_each run_held run_lines walk read_tree free_tree place_part
pieces_case = refl

pub again_case : trace_of_run is_single written_again two_sectors finds_again ≡ trace_of_both
unfolding attempt_each settle_from settle_each run_held run_lines walk read_tree free_tree place_part
again_case = refl

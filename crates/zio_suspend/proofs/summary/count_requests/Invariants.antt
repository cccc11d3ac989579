use Rattle.std.proofs.Common.{◌≡◌, length, ◌+◌, ◌≤◌}
use Rattle.zio_script.specs.Requests.{requests_of}
use Rattle.zio_suspend.proofs.summary.count_requests.Given as goal

abbrev pub invariant-loop-rest : goal.invariant-loop-rest
invariant-loop-rest l = record {
  counted : l.count + length (requests_of l.rest) ≡ length (requests_of l.items);
  short : l.count + length l.rest ≤ length l.items;
}

abbrev pub decreases-loop-rest : goal.decreases-loop-rest
decreases-loop-rest l = length l.rest

use Rattle.std.proofs.Common.{◌≡◌, length}
use Rattle.zio_latch.specs.Calls.{kids}
use Rattle.zio_bench_workers.proofs.latch.add_done_and_wait.Given as goal

abbrev pub invariant-loop-number : goal.invariant-loop-number
invariant-loop-number l = length (kids l.owner) ≡ l.number

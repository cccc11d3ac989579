use Rattle.std.proofs.Common.{◌≡◌, take}
use Rattle.zio_stages.proofs.request_read.heads_again.Given as goal

abbrev pub invariant-loop-head : goal.invariant-loop-head
invariant-loop-head l = l.copy.items ≡ take l.head-index l.heads

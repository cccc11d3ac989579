use Rattle.std.proofs.Common.{arith}
use Rattle.zio_faults.proofs.FlipLemmas.{invert_more}
use Rattle.zio_faults.proofs.table.invert.Goals as goal

pub loop-byte-preserved : goal.loop-byte-preserved
loop-byte-preserved c = invert_more _ _ _ (omega arith) (omega arith) c.loop-byte.invariant

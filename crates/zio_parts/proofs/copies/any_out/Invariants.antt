use Rattle.std.proofs.Common.{◌≡◌, drop}
use Rattle.zio_parts.specs.CopyWrites.{any_out}
use Rattle.zio_parts.proofs.copies.any_out.Given as goal

abbrev pub invariant-loop-out : goal.invariant-loop-out
invariant-loop-out l = any_out (drop l.out-index l.outs) ≡ any_out l.outs

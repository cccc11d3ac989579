use Rattle.std.proofs.Common.{◌<◌, ℕ}
use Rattle.zio_audit_run.specs.Files.{IsWithinLimits, size_at}
use Rattle.zio_audit_run.proofs.sizes.first_outside.Given as goal

abbrev pub invariant-loop-k : goal.invariant-loop-k
invariant-loop-k l = (j : ℕ) → j < l.k → IsWithinLimits j (size_at l.sizes j)

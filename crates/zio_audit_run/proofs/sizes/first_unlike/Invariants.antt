use Rattle.std.proofs.Common.{◌<◌, ◌≤◌, ℕ}
use Rattle.zio_audit_run.specs.Files.{IsLikePartner, first_after}
use Rattle.zio_audit_run.proofs.sizes.first_unlike.Given as goal

abbrev pub invariant-loop-k : goal.invariant-loop-k
invariant-loop-k l = (j : ℕ) → first_after l.sizes ≤ j → j < l.k → IsLikePartner l.sizes j

use Rattle.std.proofs.Common.{◌≡◌, ◌<◌, ℕ, false}
use Rattle.zio_types.specs.Places.{HasRun, uses_top}
use Rattle.zio_places.specs.Spaces.{used}
use Rattle.zio_audit.proofs.judge.has_other_run.Given as goal

abbrev pub invariant-loop-top : goal.invariant-loop-top
invariant-loop-top l = (k : ℕ) → k < l.top → uses_top l.earlier k ≡ false → ¬ HasRun l.space.sizes (used l.space) k l.size

use Rattle.std.proofs.Common.{◌≡◌, drop}
use Rattle.zio_types.specs.Errors.{worst_error, worst_of}
use Rattle.zio_mirror.proofs.write.worst_of.Given as goal

-- the worst so far and that of what is left are the worst of all
abbrev pub invariant-loop-error : goal.invariant-loop-error
invariant-loop-error l = worst_error l.sum (worst_of (drop l.error-index l.errors)) ≡ worst_of l.errors

use Rattle.std.proofs.Common.{◌≡◌, drop}
use Rattle.zio_cksum.specs.Blocks.{all_errors}
use Rattle.zio_mirror.proofs.write.are_all_errors.Given as goal

-- all so far are errors
abbrev pub invariant-loop-error : goal.invariant-loop-error
invariant-loop-error l = all_errors (drop l.error-index l.errors) ≡ all_errors l.errors

use Rattle.std.proofs.Common.{◌≡◌, map, take}
use Rattle.zio_audit.specs.Marks.{named}
use Rattle.zio_audit.proofs.putting.completions_of.Given as goal

abbrev pub invariant-loop-request : goal.invariant-loop-request
invariant-loop-request l = l.completions.items ≡ map (named 0) (take l.request-index l.order)

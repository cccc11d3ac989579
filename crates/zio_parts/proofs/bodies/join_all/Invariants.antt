use Rattle.std.proofs.Common.{◌≡◌, take}
use Rattle.zio_parts.specs.TreeReads.{bodies_in}
use Rattle.zio_parts.proofs.bodies.join_all.Given as goal

abbrev pub invariant-loop-found : goal.invariant-loop-found
invariant-loop-found l = l.joined ≡ bodies_in (take l.found-index l.results)

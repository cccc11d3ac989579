use Rattle.std.proofs.Common.{◌≡◌, take}
use Rattle.zio_gang.specs.Trees.{sizes_of}
use Rattle.zio_audit.proofs.auditing.sizes_of.Given as goal

abbrev pub invariant-loop-top : goal.invariant-loop-top
invariant-loop-top l = l.sizes ≡ sizes_of (take l.top-index l.tops)

use Rattle.std.proofs.Common.{◌≡◌, take}
use Rattle.zio_gang.specs.Trees.{sizes_of}
use Rattle.zio_turns.proofs.desk.sizes_of.Given as goal

abbrev pub invariant-loop-top : goal.invariant-loop-top
invariant-loop-top l = l.sizes.items ≡ sizes_of (take l.top-index l.tops)

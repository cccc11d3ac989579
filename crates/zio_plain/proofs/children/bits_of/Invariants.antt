use Rattle.std.proofs.Common.{◌≡◌, map, reverse, take}
use Rattle.zio_gang.specs.Attempts.{bits_of}
use Rattle.zio_plain.specs.Waits.{return_of}
use Rattle.zio_plain.proofs.children.bits_of.Given as goal

abbrev pub invariant-loop-one : goal.invariant-loop-one
invariant-loop-one l = l.bits ≡ bits_of (map return_of (reverse (take l.one-index l.handed)))

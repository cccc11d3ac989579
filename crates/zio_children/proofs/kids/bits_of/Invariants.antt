use Rattle.std.proofs.Common.{◌≡◌, map, reverse, take}
use Rattle.zio_gang.specs.Attempts.{bits_of}
use Rattle.zio_children.specs.RequestKids.{return_by}
use Rattle.zio_children.proofs.kids.bits_of.Given as goal

abbrev pub invariant-loop-kid : goal.invariant-loop-kid
invariant-loop-kid l = l.bits ≡ bits_of (reverse (map return_by (take l.kid-index l.kids)))

use Rattle.std.proofs.Common.{◌≡◌, map, take}
use Rattle.zio_children.specs.RequestKids.{kept_as}
use Rattle.zio_children.proofs.kids.children_of.Given as goal

abbrev pub invariant-loop-kid : goal.invariant-loop-kid
invariant-loop-kid l = l.children ≡ map kept_as (take l.kid-index l.kids)

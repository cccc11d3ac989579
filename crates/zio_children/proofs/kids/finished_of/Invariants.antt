use Rattle.std.proofs.Common.{◌≡◌, filter, map, not, take}
use Rattle.zio_types.specs.Bits.{has_bits}
use Rattle.zio_children.specs.RequestKids.{bits_by, kept_as}
use Rattle.zio_children.specs.declared.kids.Kid.{Kid}
use Rattle.zio_children.proofs.kids.finished_of.Given as goal

abbrev pub invariant-loop-kid : goal.invariant-loop-kid
invariant-loop-kid l = l.children ≡ map kept_as (filter (λ (k : Kid). not (has_bits (bits_by k.state))) (take l.kid-index l.kids))

use Rattle.std.proofs.Common.{◌≡◌, map, take}
use Rattle.zio_types.specs.Errors.{worst_of}
use Rattle.zio_plain.specs.declared.waiting.Kept.{Kept}
use Rattle.zio_plain.proofs.children.worst_of.Given as goal

abbrev pub invariant-loop-child : goal.invariant-loop-child
invariant-loop-child l = l.error ≡ worst_of (map (λ (k : Kept). k.error) (take l.child-index l.children))

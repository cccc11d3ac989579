use Rattle.std.proofs.Common.{◌≡◌, map, take}
use Rattle.zio_types.specs.Errors.{worst_of}
use Rattle.zio_children.specs.declared.kept.KeptChild.{KeptChild}
use Rattle.zio_children.proofs.kept.worst_of.Given as goal

abbrev pub invariant-loop-child : goal.invariant-loop-child
invariant-loop-child l = l.error ≡ worst_of (map (λ (k : KeptChild). k.error) (take l.child-index l.children))

use Rattle.std.proofs.Common.{◌≡◌, map, take}
use Rattle.zio_children.specs.declared.kept.KeptChild.{KeptChild}
use Rattle.zio_children.proofs.kept.pointers_in.Given as goal

abbrev pub invariant-loop-child : goal.invariant-loop-child
invariant-loop-child l = l.pointers ≡ map (λ (k : KeptChild). k.pointer) (take l.child-index l.children)

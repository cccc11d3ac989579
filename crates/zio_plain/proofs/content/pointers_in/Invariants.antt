use Rattle.std.proofs.Common.{◌≡◌, map, take}
use Rattle.zio_plain.specs.declared.waiting.Kept.{Kept}
use Rattle.zio_plain.proofs.content.pointers_in.Given as goal

abbrev pub invariant-loop-child : goal.invariant-loop-child
invariant-loop-child l = l.pointers ≡ map (λ (k : Kept). k.pointer) (take l.child-index l.children)

use Rattle.std.proofs.Common.{◌≡◌, map, take}
use Rattle.zio_plain.specs.declared.waiting.Handed.{Handed}
use Rattle.zio_plain.proofs.children.children_of.Given as goal

abbrev pub invariant-loop-one : goal.invariant-loop-one
invariant-loop-one l = l.children ≡ map (λ (h : Handed). h.child) (take l.one-index l.handed)

use Rattle.std.proofs.Common.{◌≡◌, filter, map, not, take}
use Rattle.zio_types.specs.Bits.{has_bits}
use Rattle.zio_plain.specs.declared.waiting.Handed.{Handed}
use Rattle.zio_plain.proofs.children.finished_of.Given as goal

abbrev pub invariant-loop-one : goal.invariant-loop-one
invariant-loop-one l =
    l.children ≡ map (λ (h : Handed). h.child) (filter (λ (h : Handed). not (has_bits h.bits)) (take l.one-index l.handed))

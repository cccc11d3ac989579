use Rattle.std.proofs.Common.{◌≡◌, ◌≤◌, count_by, take}
use Rattle.zio_types.specs.Bits.{has_bits}
use Rattle.zio_plain.specs.declared.waiting.Handed.{Handed}
use Rattle.zio_plain.proofs.children.again_count.Given as goal

abbrev pub invariant-loop-one : goal.invariant-loop-one
invariant-loop-one l =
    (l.count ≡ count_by (λ (h : Handed). has_bits h.bits) (take l.one-index l.handed)) × (l.count ≤ l.one-index)

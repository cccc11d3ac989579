use Rattle.std.proofs.Common.{◌≡◌, ◌++◌, ◌<◌, List, length}
use Rattle.std.specs.List.{AllByRecursion}
use Rattle.zio_plain.specs.declared.waiting.Kept.{Kept}
use Rattle.zio_plain.proofs.children.add_below.Given as goal

abbrev pub invariant-loop-first : goal.invariant-loop-first
invariant-loop-first l =
    (front : List Kept) × (l.all ≡ l.fn.all ++ front) × (l.kept ≡ front ++ l.rest) × AllByRecursion (λ (k : Kept). k.number < l.number) front

abbrev pub decreases-loop-first : goal.decreases-loop-first
decreases-loop-first l = length l.rest

use Rattle.std.proofs.Common.{◌≡◌, ◌++◌, ◌<◌, List, length}
use Rattle.std.specs.List.{AllByRecursion}
use Rattle.zio_children.specs.declared.kept.KeptChild.{KeptChild}
use Rattle.zio_children.proofs.kept.add_below.Given as goal

abbrev pub invariant-loop-first : goal.invariant-loop-first
invariant-loop-first l =
    (front : List KeptChild) × (l.all ≡ l.fn.all ++ front) × (l.kept ≡ front ++ l.rest) × AllByRecursion (λ (k : KeptChild). k.number < l.number) front

abbrev pub decreases-loop-first : goal.decreases-loop-first
decreases-loop-first l = length l.rest

use Rattle.std.proofs.Common.{◌≡◌, ℕ, ◌++◌, drop, reverse}
use Rattle.zio_children.specs.KeptChildren.{merged, numbers_in}
use Rattle.zio_children.specs.RequestKids.{RiseFrom}
use Rattle.zio_children.proofs.kept.merged.Given as goal

abbrev pub invariant-loop-child : goal.invariant-loop-child
invariant-loop-child l =
    (merged (reverse l.fn.new) l.fn.kept ≡ l.all ++ merged (reverse (drop l.child-index l.new)) l.rest)
    × ((least : ℕ) × RiseFrom least (numbers_in (drop l.child-index l.new)))

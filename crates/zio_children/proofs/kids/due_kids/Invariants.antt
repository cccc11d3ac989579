use Rattle.std.proofs.Common.{◌≡◌, take}
use Rattle.zio_children.specs.RequestKids.{due_kids}
use Rattle.zio_children.proofs.kids.due_kids.Given as goal

abbrev pub invariant-loop-number : goal.invariant-loop-number
invariant-loop-number l = l.kids.items ≡ due_kids (take l.number-index l.numbers)

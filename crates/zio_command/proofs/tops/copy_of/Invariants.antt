use Rattle.std.proofs.Common.{◌≡◌, take}
use Rattle.zio_command.proofs.tops.copy_of.Given as goal

abbrev pub invariant-loop-top : goal.invariant-loop-top
invariant-loop-top l = l.copy ≡ take l.top-index l.tops

use Rattle.std.proofs.Common.{◌≡◌, map, take}
use Rattle.zio_types.specs.Errors.{worst_of}
use Rattle.zio_children.specs.RequestKids.{done_error}
use Rattle.zio_children.proofs.kids.worst_finished.Given as goal

abbrev pub invariant-loop-kid : goal.invariant-loop-kid
invariant-loop-kid l = l.error ≡ worst_of (map done_error (take l.kid-index l.kids))

use Rattle.std.proofs.Common.{◌≡◌, drop}
use Rattle.zio_parts.specs.HeadWalks.{is_any_out}
use Rattle.zio_parts.proofs.head_walk.is_any_out.Given as goal

abbrev pub invariant-loop-walked : goal.invariant-loop-walked
invariant-loop-walked l = is_any_out (drop l.walked-index l.left) ≡ is_any_out l.left

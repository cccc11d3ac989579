use Rattle.std.proofs.Common.{◌≡◌, ℕ, ◌+◌, ◌<◌, length, get_or}
use Rattle.zio_mirror.specs.Plans.{round_to}
use Rattle.zio_mirror.proofs.plan.rotated.Given as goal

-- the children so far stand in their order
abbrev pub invariant-loop-i : goal.invariant-loop-i
invariant-loop-i l = record {
  room : length l.order ≡ 4;
  placed : (k : ℕ) → k < l.i → get_or l.order k 0 ≡ round_to l.n (l.first + k);
}

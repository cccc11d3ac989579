-- How large the numbers of a label's fields are.
use Rattle.std.proofs.Common.{ℕ, ◌<◌, ◌≤◌, ◌^◌, arith}
use Rattle.std.proofs.Math.Nat.{pow-le-pow_right}

-- below a power of four with a small exponent
pub below_power : (k m n : ℕ) → n < 4 ^ k → k ≤ m → n < 4 ^ m
below_power k m n h le = let more : 4 ^ k ≤ 4 ^ m = pow-le-pow_right (omega (arith)) le in omega (arith, h, more)

use Rattle.std.proofs.Common.{◌≡◌, ◌-◌, arith, w64}
use Rattle.std.specs.Int.{bit_at}
use Rattle.std.proofs.lemmas.Nat.Bits.{bit_at_not, bit_at-lt}
use Rattle.zio_places.proofs.word.equal_bits.Goals as goal

pub returns-then-n-eq1-clause-equal : goal.returns-then-n-eq1-clause-equal
returns-then-n-eq1-clause-equal c i h =
    let at : bit_at (18446744073709551615 - c.args.n) i ≡ 1 - bit_at c.args.n i = bit_at_not w64 c.args.n i c.ranges.n.fits (omega (arith, h, c.clear_bits.ensures.most)) in
    let first : bit_at (18446744073709551615 - c.args.n) 0 ≡ 1 - bit_at c.args.n 0 = bit_at_not w64 c.args.n 0 c.ranges.n.fits (omega arith) in
    omega (arith, at, first, c.clear_bits.ensures.clear i h, c.clear_bits.ensures.clear 0 c.clear_bits.ensures.some, bit_at-lt c.args.n i, bit_at-lt c.args.n 0)

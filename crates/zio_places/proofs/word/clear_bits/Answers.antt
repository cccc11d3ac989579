use Rattle.std.proofs.Common.{ap, arith, w64}
use Rattle.std.specs.Int.{bit_at, trailing_zeros}
use Rattle.std.proofs.Common.{inl, inr}
use Rattle.std.proofs.lemmas.Bool.{cases_eq}
use Rattle.std.proofs.lemmas.Nat.Bits.{bit_at-trailing_zeros}
use Rattle.zio_places.proofs.word.clear_bits.Goals as goal

pub returns-else-n-eq0-clause-some : goal.returns-else-n-eq0-clause-some
returns-else-n-eq0-clause-some c =
    let first = bit_at-trailing_zeros w64 c.args.n (omega arith) c.ranges.n.fits in
    elim (cases_eq (trailing_zeros w64 c.args.n) 0) [
      | inl none ↦ absurd (omega (arith, first.1, ap (bit_at c.args.n) none, c.requires))
      | inr some ↦ omega (arith, some)
    ]

pub returns-else-n-eq0-clause-clear : goal.returns-else-n-eq0-clause-clear
returns-else-n-eq0-clause-clear c = (bit_at-trailing_zeros w64 c.args.n (omega arith) c.ranges.n.fits).2

use Rattle.std.proofs.Common.{sym, ap, ◌∙◌, arith}
use Rattle.std.specs.Prelude.{◌==◌}
use Rattle.std.proofs.lemmas.Nat.Bits.{shr_and_one}
use Rattle.zio_places.proofs.WordLemmas.{word_length, word_flag}
use Rattle.zio_places.proofs.word.Word.is_free.Goals as goal

pub overflow_shr-result : goal.overflow_shr-result
overflow_shr-result c = omega (arith, word_length _ _ _ c.self.view_is, c.self.invariant)

pub returns : goal.returns
returns c =
    ap (λ b. b == 1) (shr_and_one c.self.inside.bits c.args.at)
    ∙ sym (word_flag _ _ _ c.args.at c.self.view_is (omega (arith, word_length _ _ _ c.self.view_is, c.requires)))

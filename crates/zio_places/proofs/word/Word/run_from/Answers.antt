use Rattle.std.proofs.Common.{◌≤◌, arith}
use Rattle.zio_places.proofs.WordLemmas.{word_length, word_run}
use Rattle.zio_places.proofs.word.Word.run_from.Goals as goal

pub overflow_shr-self-inside : goal.overflow_shr-self-inside
overflow_shr-self-inside c = omega (arith, word_length _ _ _ c.self.view_is, c.self.invariant)

pub overflow_sub-self-inside : goal.overflow_sub-self-inside
overflow_sub-self-inside c = omega (arith, word_length _ _ _ c.self.view_is, c.requires)

pub returns-clause-some : goal.returns-clause-some
returns-clause-some c = omega (arith, c.min.ensures, c.equal_bits.ensures.some, word_length _ _ _ c.self.view_is, c.requires)

pub returns-clause-same : goal.returns-clause-same
returns-clause-same c =
    let long = word_length _ _ _ c.self.view_is in
    let short : c.min.result ≤ c.equal_bits.result = omega (arith, c.min.ensures) in
    word_run c.self.inside.bits c.self.inside.len c.args.at c.min.result c.args.self.now c.self.view_is (omega (arith, c.min.ensures, long, c.requires)) (omega (arith, long, c.requires))
    (λ i h. c.equal_bits.ensures.equal i (omega (arith, h, short)))

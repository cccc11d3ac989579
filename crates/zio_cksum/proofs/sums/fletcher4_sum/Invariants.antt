use Rattle.std.proofs.Common.{◌≡◌, drop}
use Rattle.zio_cksum.proofs.FletcherLemmas.{at_start, after_words}
use Rattle.zio_cksum.proofs.sums.fletcher4_sum.Given as goal

abbrev pub invariant-loop-word : goal.invariant-loop-word
invariant-loop-word l =
    after_words at_start l.words ≡ after_words (record { a = l.a; b = l.b; c = l.c; d = l.d }) (drop l.word-index l.words)

use Rattle.std.proofs.Common.{refl, ap, sym, ◌∙◌}
use Rattle.zio_cksum.specs.Sums.{Fletcher, fletcher4, fletcher_words}
use Rattle.zio_cksum.proofs.FletcherLemmas.{at_start, all_words, one_more}
use Rattle.zio_cksum.proofs.sums.fletcher4_sum.Goals as goal

pub loop-word-preserved : goal.loop-word-preserved
loop-word-preserved c =
    let s : Fletcher = record { a = c.loop-word.a; b = c.loop-word.b; c = c.loop-word.c; d = c.loop-word.d } in
    one_more at_start s c.as_chunks.result.0.now c.loop-word.word-index c.from-a.result _ _ _ _
    c.loop-word-test.true c.loop-word.invariant (c.from-a.ensures ∙ c.from_le_bytes.ensures) refl refl refl refl

pub returns : goal.returns
unfolding fletcher4
returns c =
    let s : Fletcher = record { a = c.loop-word.a; b = c.loop-word.b; c = c.loop-word.c; d = c.loop-word.d } in
    ap fletcher_words (sym (all_words at_start s c.args.bytes.now c.as_chunks.result.0.now c.loop-word.word-index c.requires c.as_chunks.ensures.front c.loop-word-test.false c.loop-word.invariant))

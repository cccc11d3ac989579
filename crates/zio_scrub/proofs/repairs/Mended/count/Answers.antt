use Rattle.std.proofs.Common.{ℕ, arith}
use Rattle.zio_scrub.specs.Scrubs.{one_failed, one_written}
use Rattle.zio_scrub.proofs.CountLemmas.{counted_more}
use Rattle.zio_scrub.proofs.repairs.Mended.count.Goals as goal

pub loop-answer-preserved : goal.loop-answer-preserved
loop-answer-preserved c =
    let xs = c.args.answers.now in
    let i : ℕ = c.loop-answer.answer-index in
    let w = counted_more one_written xs i c.answer-item.result c.loop-answer-test.true c.answer-item.is in
    let f = counted_more one_failed xs i c.answer-item.result c.loop-answer-test.true c.answer-item.is in
    record {
      repaired = omega (arith, w, c.count_one.ensures.repaired, c.loop-answer.invariant.repaired);
      failed = omega (arith, f, c.count_one.ensures.failed, c.loop-answer.invariant.failed);
      most = omega (arith, c.count_one.ensures.most, c.loop-answer.invariant.most);
    }

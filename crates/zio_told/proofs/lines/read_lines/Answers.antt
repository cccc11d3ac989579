use Rattle.zio_told.specs.Told.{IsLine}
use Rattle.zio_told.proofs.LineLemmas.{zip_taken}
use Rattle.zio_told.proofs.lines.read_lines.Goals as goal

pub loop-line-preserved : goal.loop-line-preserved
loop-line-preserved c =
    let here = rw c.in-Some.is at c.in_ok-line.ensures in
    rw c.in_ok-push-in-Some.ensures.items
    (zip_taken (IsLine c.args.tops.now) (λ line. line.now) c.args.lines.now c.loop-line.line-index _ c.loop-line.told.items c.in-Some.line c.loop-line-test.true c.loop-line.invariant here)

use Rattle.std.proofs.Common.{length}
use Rattle.zio_script.specs.declared.script.TopLine.{TopLine}
use Rattle.zio_command.specs.Tops.{HaveImages}
use Rattle.zio_command.proofs.TopLemmas.{HaveImages-lines, all_at}
use Rattle.zio_command.proofs.tops.tops_of.Goals as goal

pub top_of-requires-clause-named : goal.top_of-requires-clause-named
top_of-requires-clause-named c =
    let images = length c.args.sizes.now in
    all_at (λ (line : TopLine). HaveImages images line.leaves) c.args.lines.now c.loop-line.line-index c.line-item.result
    (HaveImages-lines images c.args.lines.now c.requires.named) c.loop-line-test.true c.line-item.is

pub returns-clause-short : goal.returns-clause-short
returns-clause-short c = c.loop-line.invariant.short

use Rattle.std.proofs.Common.{◌≢◌, take}
use Rattle.std.specs.List.{AllByRecursion}
use Rattle.zio_scrub.specs.declared.heard.Mark.{Mark}
use Rattle.zio_scrub.specs.declared.heard.Mark.TheVariants.{Bad}
use Rattle.zio_scrub.proofs.reads.has_bad.Given as goal

abbrev pub invariant-loop-mark : goal.invariant-loop-mark
invariant-loop-mark l = AllByRecursion (λ (mark : Mark). mark ≢ Bad) (take l.mark-index l.marks)

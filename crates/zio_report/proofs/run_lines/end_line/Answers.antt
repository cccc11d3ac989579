use Rattle.std.proofs.Common.{refl}
use Rattle.std.specs.Fmt.{digits}
use Rattle.zio_report.proofs.run_lines.end_line.Goals as goal

pub returns-in-Complete : goal.returns-in-Complete
unfolding digits
returns-in-Complete c = rw c.in-Complete.is refl

pub returns-in-Panic : goal.returns-in-Panic
unfolding digits
returns-in-Panic c = rw c.in-Panic.is refl

pub returns-in-Left : goal.returns-in-Left
unfolding digits
returns-in-Left c = rw c.in-Left.is refl

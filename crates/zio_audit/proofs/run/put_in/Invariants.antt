use Rattle.std.proofs.Common.{length, map}
use Rattle.std.specs.Prelude.{◌↔◌}
use Rattle.zio_audit.specs.Putting.{Fits, IsPutIn, text_of}
use Rattle.zio_audit.proofs.run.put_in.Given as goal

abbrev pub invariant-loop-later : goal.invariant-loop-later
invariant-loop-later l = IsPutIn l.initial.later l.report ↔ Fits l.put (map text_of l.later) l.held

abbrev pub decreases-loop-later : goal.decreases-loop-later
decreases-loop-later l = length l.put.lines.now

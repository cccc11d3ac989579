use Rattle.std.proofs.Common.{◌≡◌, ◌+◌, ◌≤◌, length}
use Rattle.zio_script.specs.Words.{lines_of}
use Rattle.zio_audit.proofs.shapes.line_before.Given as goal

abbrev pub invariant-loop-behind : goal.invariant-loop-behind
invariant-loop-behind l = record {
  lines : l.number + length (lines_of l.rest) ≡ length (lines_of l.report);
  few : l.number + length l.rest ≤ length l.report;
}

abbrev pub decreases-loop-behind : goal.decreases-loop-behind
decreases-loop-behind l = length l.rest

use Rattle.std.proofs.Common.{◌+◌, ◌≤◌, length}
use Rattle.zio_audit.proofs.FaultyLemmas.{AreRead}
use Rattle.zio_audit.proofs.shapes.first_faulty.Given as goal

abbrev pub invariant-loop-line : goal.invariant-loop-line
invariant-loop-line l = record {
  read : AreRead l.report l.number l.begun l.rest;
  few : l.number + length l.rest ≤ length l.report;
}

abbrev pub decreases-loop-line : goal.decreases-loop-line
decreases-loop-line l = length l.rest

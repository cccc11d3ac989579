use Rattle.std.proofs.Common.{◌≤◌, List, ℕ, length}
use Rattle.std.specs.Prelude.{◌↔◌}
use Rattle.zio_audit.specs.Putting.{Fits}
use Rattle.zio_audit.proofs.putting.PutIn.next_round.Given as goal

abbrev pub invariant-loop-line : goal.invariant-loop-line
invariant-loop-line l = record {
  fits : (later : List (List ℕ)) → Fits l.initial.self later l.journal ↔ Fits l.self later l.held;
  shorter : length l.self.lines.now ≤ length l.initial.self.lines.now;
}

abbrev pub decreases-loop-line : goal.decreases-loop-line
decreases-loop-line l = length l.self.lines.now

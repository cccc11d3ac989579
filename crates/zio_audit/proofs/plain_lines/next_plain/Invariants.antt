use Rattle.std.proofs.Common.{◌≡◌, ◌≤◌, length}
use Rattle.zio_audit.specs.Putting.{plain_lines}
use Rattle.zio_audit.proofs.plain_lines.next_plain.Given as goal

abbrev pub invariant-loop-line : goal.invariant-loop-line
invariant-loop-line l = record { lines : plain_lines l.text ≡ plain_lines l.rest; shorter : length l.rest ≤ length l.text }

abbrev pub decreases-loop-line : goal.decreases-loop-line
decreases-loop-line l = length l.rest

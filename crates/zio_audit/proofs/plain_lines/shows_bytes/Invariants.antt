use Rattle.std.proofs.Common.{◌≡◌, length}
use Rattle.zio_audit.specs.Texts.{shows_bytes}
use Rattle.zio_audit.proofs.plain_lines.shows_bytes.Given as goal

abbrev pub invariant-loop-line : goal.invariant-loop-line
invariant-loop-line l = shows_bytes l.report ≡ shows_bytes l.rest

abbrev pub decreases-loop-line : goal.decreases-loop-line
decreases-loop-line l = length l.rest

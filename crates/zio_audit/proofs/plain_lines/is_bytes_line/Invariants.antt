use Rattle.std.proofs.Common.{◌≡◌, ◌<◌, take}
use Rattle.std.specs.Prelude.{◌==◌, count_by}
use Rattle.zio_audit.proofs.plain_lines.is_bytes_line.Given as goal

abbrev pub invariant-loop-c : goal.invariant-loop-c
invariant-loop-c l = record { few : l.blanks < 6; blanks : l.blanks ≡ count_by (λ c. c == 32) (take l.c-index l.line) }

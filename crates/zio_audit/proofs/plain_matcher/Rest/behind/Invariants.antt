use Rattle.std.proofs.Common.{◌≡◌, ◌++◌, List, length, ℕ}
use Rattle.std.specs.Prelude.{◌↔◌}
use Rattle.zio_audit.specs.PlainMatching.{text_left}
use Rattle.zio_audit.proofs.plain_matcher.Rest.behind.Given as goal

abbrev pub invariant-loop-piece : goal.invariant-loop-piece
invariant-loop-piece l = (more : List ℕ) → (text_left l.initial.rest ≡ l.initial.piece ++ more) ↔ (text_left l.rest ≡ l.piece ++ more)

abbrev pub decreases-loop-piece : goal.decreases-loop-piece
decreases-loop-piece l = length l.piece

use Rattle.std.proofs.Common.{◌≡◌}
use Rattle.zio_turns.proofs.HelpMoves.{IsGathering}
use Rattle.zio_turns.proofs.helped.gathered.Given as goal

abbrev pub invariant-loop : goal.invariant-loop
invariant-loop g l = (l.turns.nodes ≡ l.fn.turns.nodes) × IsGathering l.key l.fn.turns.line l.wanted.items l.turns.line

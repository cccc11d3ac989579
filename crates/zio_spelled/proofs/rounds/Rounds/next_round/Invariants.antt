use Rattle.std.proofs.Common.{◌≡◌, length}
use Rattle.zio_spelled.specs.Reading.{lines_onto, no_lines}
use Rattle.zio_spelled.specs.Rounds.{lines_before, lines_of_rounds}
use Rattle.zio_spelled.proofs.rounds.Rounds.next_round.Given as goal

abbrev pub invariant-loop-line : goal.invariant-loop-line
invariant-loop-line l = record {
  read : lines_onto l.tops l.round no_lines (lines_before l.initial.rest) ≡ lines_onto l.tops l.round l.journal (lines_before l.rest);
  left : lines_of_rounds l.initial.rest ≡ lines_of_rounds l.rest;
  kept : l.self ≡ l.initial.self;
}

abbrev pub decreases-loop-line : goal.decreases-loop-line
decreases-loop-line l = length l.rest

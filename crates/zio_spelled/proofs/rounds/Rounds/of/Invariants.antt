use Rattle.std.proofs.Common.{◌≡◌, length}
use Rattle.std.specs.List.{list_any}
use Rattle.zio_spelled.specs.Rounds.{lines_before, lines_of_rounds}
use Rattle.zio_spelled.specs.Spelled.{is_journal}
use Rattle.zio_spelled.proofs.rounds.Rounds.of.Given as goal

abbrev pub invariant-loop-line : goal.invariant-loop-line
invariant-loop-line l = record {
  read : list_any is_journal (lines_before l.initial.rest) ≡ list_any is_journal (lines_before l.rest);
  left : lines_of_rounds l.initial.rest ≡ lines_of_rounds l.rest;
}

abbrev pub decreases-loop-line : goal.decreases-loop-line
decreases-loop-line l = length l.rest

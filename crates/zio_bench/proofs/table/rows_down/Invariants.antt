use Rattle.std.proofs.Common.{All}
use Rattle.zio_faults.specs.Hits.{RowFits}
use Rattle.zio_bench.proofs.table.rows_down.Given as goal

-- the rows so far fit
abbrev pub invariant-loop-i : goal.invariant-loop-i
invariant-loop-i l = All RowFits l.rows

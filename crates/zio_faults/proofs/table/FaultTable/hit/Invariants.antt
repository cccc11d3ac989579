use Rattle.std.proofs.Common.{◌≡◌, drop}
use Rattle.zio_faults.specs.Hits.{first_hit}
use Rattle.zio_faults.proofs.table.FaultTable.hit.Given as goal

-- the rows so far aren't met
abbrev pub invariant-loop-row : goal.invariant-loop-row
invariant-loop-row l = first_hit (drop l.row-index l.row-items) l.operation ≡ first_hit l.row-items l.operation

use Rattle.std.proofs.Common.{ℕ, ◌<◌}
use Rattle.zio_places.specs.Flags.{best_run}
use Rattle.zio_places.specs.Tables.{top_at, whole_units}
use Rattle.zio_places.proofs.tops.find_any.Given as goal

abbrev pub invariant-loop-top : goal.invariant-loop-top
invariant-loop-top l = (k : ℕ) → k < l.top → best_run (top_at l.tops k).free < whole_units l.tops k l.sectors

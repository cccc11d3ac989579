use Rattle.std.proofs.Common.{◌≡◌, ℕ, ◌<◌}
use Rattle.std.specs.Prelude.{false}
use Rattle.zio_types.specs.Places.{uses_top}
use Rattle.zio_places.specs.Flags.{best_run}
use Rattle.zio_places.specs.Tables.{top_at, whole_units}
use Rattle.zio_places.proofs.tops.find_fresh.Given as goal

abbrev pub invariant-loop-top : goal.invariant-loop-top
invariant-loop-top l = (k : ℕ) → k < l.top → uses_top l.earlier k ≡ false → best_run (top_at l.tops k).free < whole_units l.tops k l.sectors

use Rattle.std.proofs.Common.{ℕ, ◌≤◌, take, drop}
use Rattle.zio_places.specs.Tables.{cover_count, taken_at, AreMarkedUsed}
use Rattle.zio_places.proofs.tops.clear_all.Given as goal

abbrev pub invariant-loop-place : goal.invariant-loop-place
invariant-loop-place l = record {
  cleared : AreMarkedUsed l.tops l.initial.tops (take l.place-index l.places);
  left : (top sector : ℕ) → cover_count (drop l.place-index l.places) top sector ≤ taken_at l.tops top sector;
}

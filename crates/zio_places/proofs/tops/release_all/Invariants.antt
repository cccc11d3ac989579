use Rattle.std.proofs.Common.{ℕ, ◌≤◌, take, drop}
use Rattle.zio_types.specs.declared.place.Place.{Place}
use Rattle.zio_places.specs.Tables.{total, live_of, AreAllocated}
use Rattle.zio_places.proofs.tops.release_all.Given as goal

abbrev pub invariant-loop-place : goal.invariant-loop-place
invariant-loop-place l = record {
  released : AreAllocated l.tops l.initial.tops (take l.place-index l.places);
  live : (f : Place → ℕ) → total f (drop l.place-index l.places) ≤ total f (live_of l.tops);
}

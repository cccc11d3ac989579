use Rattle.std.proofs.Common.{◌≡◌, List, take}
use Rattle.std.specs.Prelude.{true}
use Rattle.zio_types.specs.Places.{are_open}
use Rattle.zio_types.specs.declared.place.Place.{Place}
use Rattle.zio_places.specs.Tables.{AreBitmapsOf, AreAllocated}
use Rattle.zio_places.proofs.tops.allocate_all.Given as goal

abbrev pub invariant-loop-i : goal.invariant-loop-i
invariant-loop-i l = record {
  held : AreAllocated l.initial.tops l.tops (take l.i l.places);
  open_so_far : (used : List Place) → AreBitmapsOf used l.initial.tops → are_open used (take l.i l.places) ≡ true;
}

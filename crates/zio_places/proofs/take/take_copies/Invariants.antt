use Rattle.std.proofs.Common.{List, [], take}
use Rattle.zio_types.specs.declared.place.Place.{Place}
use Rattle.zio_types.specs.Places.{AreCopies}
use Rattle.zio_types.specs.Choices.{no_place}
use Rattle.zio_types.specs.Filled.{IsFilled}
use Rattle.zio_places.specs.Tables.{sizes_of, AreAligned, AreBitmapsOf, AreAllocated}
use Rattle.zio_places.proofs.take.take_copies.Given as goal

abbrev pub invariant-loop-found : goal.invariant-loop-found
invariant-loop-found l = record {
  filled : IsFilled no_place 3 l.found l.places;
  held : AreAllocated l.initial.tops l.tops (take l.found l.places);
  lawful : (used : List Place) → AreBitmapsOf used l.initial.tops → AreAligned (sizes_of l.initial.tops) used → AreCopies (sizes_of l.initial.tops) used l.size [] (take l.found l.places);
}

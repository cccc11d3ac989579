-- What a claim of a block changes of a chooser of places.
use Rattle.std.specs.Prelude.{◌≡◌, List, ◌++◌, true}
use Rattle.zio_types.specs.declared.place.Place.{Place}
use Rattle.zio_types.specs.Places.{SamePlaces, are_open}

-- These places were free and apart, and they are live and in use beside the old ones.
pub record AreTaken (places used_old live_old used_new live_new : List Place) : Type 0 where
  pub were_open : are_open used_old places ≡ true
  pub used : SamePlaces used_new (places ++ used_old)
  pub live : SamePlaces live_new (places ++ live_old)

-- The places in use, and the live ones, are those that they were.
pub record StayTaken (used_old live_old used_new live_new : List Place) : Type 0 where
  pub used : used_new ≡ used_old
  pub live : live_new ≡ live_old

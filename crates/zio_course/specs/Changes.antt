-- Where images changed, by the places that were written.
use Rattle.std.specs.Prelude.{◌⊎◌, List, IsTrue, Contains}
use Rattle.std.specs.List.{AllByRecursion, list_all}
use Rattle.zio_types.specs.declared.place.Place.{Place}
use Rattle.zio_types.specs.declared.place.TopSize.{TopSize}
use Rattle.zio_types.specs.Places.{is_free, is_inside}
use Rattle.zio_cksum.specs.Frames.{SameOutside, spots_of}
use Rattle.zio_cksum.specs.Images.{Images, Setting}

-- The images changed only at these places: each lies inside its top, and is one of the named ones or wasn't in use.
pub record ChangedAt (s : Setting) (sizes : List TopSize) (used named : List Place) (before after : Images) : Type 0 where
  pub places : List Place
  pub inside : IsTrue (list_all (is_inside sizes) places)
  pub may : AllByRecursion (λ (p : Place). Contains named p ⊎ IsTrue (is_free used p)) places
  pub same : SameOutside (spots_of s places) before after

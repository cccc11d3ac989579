-- Which entries a round has, where its chooser gave these: the same ones, or those that were recorded of it.
use Rattle.std.specs.Prelude.{◌≡◌, ℕ, List, []}
use Rattle.zio_types.specs.declared.place.Place.{Place}
use Rattle.zio_types.specs.declared.place.TopSize.{TopSize}
use Rattle.zio_types.specs.Choices.{Choice}
use Rattle.zio_types.specs.Places.{SamePlaces}
use Rattle.zio_cksum.specs.Images.{Images}
use Rattle.zio_gang.specs.Attempts.{Pending, Terms}
use Rattle.zio_gang.specs.Journals.{AreChoicesOf, asks_of}
use Rattle.zio_gang.specs.Rounds.{settle_each}
use Rattle.zio_gang.specs.Trees.{sizes_of}
use Rattle.zio_blocks.specs.Blocks.{AnswersBy}
use Rattle.zio_course.specs.declared.runner.RequestEnd.{RequestEnd}
use Rattle.zio_plain.specs.Settlings.{IsRan}

-- They are the choices for what was asked, and a journal of them answers as the chooser did.
pub record AreEntriesFor (sizes : List TopSize) (used : List Place) (given entries : List Choice) : Type 0 where
  pub choices : AreChoicesOf sizes used (asks_of given) entries
  pub answers : AnswersBy entries given

-- these are terms of the round with this number, over tops of these sizes and beside these places in use
pub record AreTermsFrom (round : ℕ) (sizes : List TopSize) (used : List Place) (t : Terms) : Type 0 where
  pub round_is : t.round ≡ round
  pub sizes_are : sizes_of t.setting.tops ≡ sizes
  pub used_are : SamePlaces used t.used

-- The trees ran, and to the same under every journal that answers as the chooser did.
pub record HaveRunOn (given : List Choice) (t : Terms) (trees : List (List Pending)) (before : Images) : Type 0 where
  pub ends : List RequestEnd
  pub left : List (List Pending)
  pub after : Images
  pub is : (journal : List Choice) → AnswersBy journal given → IsRan (settle_each journal t trees before) ends left [] given after

-- Calls of the space: what a node asked of it, gave back and claimed.
use Rattle.std.specs.Prelude.{◌≡◌, ℕ, ◌≤◌, List, [], ◌∷◌, ◌++◌, length, map, take, Bool, IsTrue}
use Rattle.std.specs.List.{AllByRecursion, flat_map}
use Rattle.zio_types.specs.declared.place.Place.{Place}
use Rattle.zio_types.specs.declared.place.TopSize.{TopSize}
use Rattle.zio_types.specs.Choices.{Choice}
use Rattle.zio_types.specs.Places.{fits_size, is_aligned, is_inside}
use Rattle.zio_gang.specs.Trees.{tree_places}
use Rattle.zio_frames.specs.Moves.{Chose, Closed, Did, Opened, Took}

-- what was asked with what was found; a place that was given back; and places that were claimed, and whether all were free
pub data SpaceCall : Type 0 where
  Placed : Choice → SpaceCall
  GaveBack : Place → SpaceCall
  Claimed : List Place → Bool → SpaceCall

-- ---- which of the three it is

abbrev pub IsAsk : SpaceCall → Type 0
IsAsk (Placed c) = Unit {0}
IsAsk (GaveBack place) = ⊥
IsAsk (Claimed places free) = ⊥

abbrev pub AreAsks : List SpaceCall → Type 0
AreAsks calls = AllByRecursion IsAsk calls

abbrev pub IsReturn : SpaceCall → Type 0
IsReturn (Placed c) = ⊥
IsReturn (GaveBack place) = Unit {0}
IsReturn (Claimed places free) = ⊥

abbrev pub AreReturns : List SpaceCall → Type 0
AreReturns calls = AllByRecursion IsReturn calls

-- one claim, or none where memory was refused or nothing is to be claimed
abbrev pub IsClaimAtMost : List SpaceCall → Type 0
IsClaimAtMost [] = Unit {0}
IsClaimAtMost (Claimed places free ∷ []) = Unit {0}
IsClaimAtMost _ = ⊥

-- ---- those of what a node did

abbrev pub call_by : Did → List SpaceCall
call_by (Opened op) = []
call_by (Closed v) = []
call_by (Chose c) = Placed c ∷ []
call_by (Took tree free) = Claimed (tree_places tree) free ∷ []

-- those of what a node did
abbrev pub calls_by : List Did → List SpaceCall
calls_by dids = flat_map call_by dids

abbrev pub calls_back : List Place → List SpaceCall
calls_back places = map GaveBack places

-- Of these places the first so many were given back before, and now some more are.
pub record GivesBack {S : Type 0} (made : S → List SpaceCall → S → Type 0) (places : List Place) (old new : ℕ) (a b : S) : Type 0 where
  pub gone : List Place
  pub are : take old places ++ gone ≡ take new places
  pub calls : made a (calls_back gone) b

-- Each place is inside its top and fits the size, and there are no more than copies.
pub record IsAnswerFor (tops : List TopSize) (c : Choice) : Type 0 where
  pub few : length c.places ≤ c.asked.copies
  pub inside : AllByRecursion (λ (p : Place). IsTrue (is_inside tops p)) c.places
  pub fit : AllByRecursion (λ (p : Place). IsTrue (fits_size tops c.asked.size p)) c.places

-- each place lies inside its top, on whole units
abbrev pub LieOnTops : List TopSize → List Place → Type 0
LieOnTops tops places = AllByRecursion (λ (p : Place). IsTrue (is_inside tops p) × IsTrue (is_aligned tops p)) places

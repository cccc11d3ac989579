-- What calls make of a space, one after another, and what a space holds in a round.
use Rattle.std.specs.Prelude.{◌≡◌, ℕ, ◌+◌, ◌≤◌, List, [], ◌∷◌, ◌++◌, true, cond, ◌⊎◌, IsPermutation}
use Rattle.std.specs.List.{AllByRecursion, flat_map, list_any}
use Rattle.zio_types.specs.declared.place.Place.{Place}
use Rattle.zio_types.specs.declared.place.Top.{Top}
use Rattle.zio_types.specs.Choices.{Choice, taken_by}
use Rattle.zio_types.specs.Places.{IsLawfulChoice, SamePlaces, are_open}
use Rattle.zio_places.specs.Ordered.{all_placed_in, is_same_place, without}
use Rattle.zio_places.specs.Spaces.{SpaceState, used}
use Rattle.zio_gang.specs.Attempts.{Terms}
use Rattle.zio_gang.specs.Journals.{AreLawful}
use Rattle.zio_gang.specs.Trees.{sizes_of}
use Rattle.zio_exchange.specs.SpaceCalls.{Claimed, GaveBack, LieOnTops, Placed, SpaceCall, calls_back}

-- ---- one call

-- a space but for the room that it has for entries
abbrev pub bare : SpaceState → SpaceState
bare st = record { sizes = st.sizes; live = st.live; pending = st.pending; entries = st.entries; spare = 0 }

-- the place, where it is live
abbrev pub live_again : Place → List Place → List Place
live_again p live = cond (list_any (is_same_place p) live) (p ∷ []) []

-- what was found is live, and its entry is the last; a live place that is given back is pending; and claimed places are live
abbrev pub after_call : SpaceCall → SpaceState → SpaceState
after_call (Placed c) st = record {
  sizes = st.sizes;
  live = all_placed_in (taken_by c) st.live;
  pending = st.pending;
  entries = st.entries ++ c ∷ [];
  spare = st.spare;
}
after_call (GaveBack p) st = record {
  sizes = st.sizes;
  live = without p st.live;
  pending = st.pending ++ live_again p st.live;
  entries = st.entries;
  spare = st.spare;
}
after_call (Claimed places free) st = record {
  sizes = st.sizes;
  live = cond free (all_placed_in places st.live) st.live;
  pending = st.pending;
  entries = st.entries;
  spare = st.spare;
}

-- what was found is lawful beside the places in use; whether places were free is answered as it is, and they lie on the tops
abbrev pub IsAnswered : SpaceCall → SpaceState → Type 0
IsAnswered (Placed c) st = IsLawfulChoice st.sizes (used st) c
IsAnswered (GaveBack p) st = Unit {0}
IsAnswered (Claimed places free) st = (free ≡ are_open (used st) places) × LieOnTops st.sizes places

-- ---- calls one after another

abbrev pub after_calls : List SpaceCall → SpaceState → SpaceState
after_calls [] st = st
after_calls (call ∷ calls) st = after_calls calls (after_call call st)

-- each over what those before it made
abbrev pub AreAnswered : List SpaceCall → SpaceState → Type 0
AreAnswered [] st = Unit {0}
AreAnswered (call ∷ calls) st = IsAnswered call st × AreAnswered calls (after_call call st)

-- the calls made the second space of the first, and each was answered rightly
pub record AreMade (calls : List SpaceCall) (old new : SpaceState) : Type 0 where
  pub answered : AreAnswered calls (bare old)
  pub made : bare new ≡ after_calls calls (bare old)

-- ---- what calls are about

abbrev pub choices_by : SpaceCall → List Choice
choices_by (Placed c) = c ∷ []
choices_by (GaveBack place) = []
choices_by (Claimed places free) = []

-- the choices among them, in their order
abbrev pub choices_in : List SpaceCall → List Choice
choices_in calls = flat_map choices_by calls

abbrev pub claims_by : SpaceCall → List Place
claims_by (Placed c) = []
claims_by (GaveBack place) = []
claims_by (Claimed places free) = cond free places []

-- the places that were claimed
abbrev pub claims_in : List SpaceCall → List Place
claims_in calls = flat_map claims_by calls

abbrev pub claim_asked : SpaceCall → ℕ
claim_asked (Placed c) = 0
claim_asked (GaveBack place) = 0
claim_asked (Claimed places free) = 1

abbrev pub backs_by : SpaceCall → List Place
backs_by (Placed c) = []
backs_by (GaveBack place) = place ∷ []
backs_by (Claimed places free) = []

-- the places that were given back
abbrev pub backs_in : List SpaceCall → List Place
backs_in calls = flat_map backs_by calls

-- what is given back comes behind all else
pub record GivesLast (calls : List SpaceCall) : Type 0 where
  pub first : List SpaceCall
  pub gone : List Place
  pub are : calls ≡ first ++ calls_back gone
  pub none : backs_in first ≡ []

-- how often places were to be claimed, free or not
abbrev pub claims_asked : List SpaceCall → ℕ
claims_asked [] = 0
claims_asked (call ∷ calls) = claim_asked call + claims_asked calls

abbrev pub found_by : SpaceCall → List Place
found_by (Placed c) = taken_by c
found_by (GaveBack place) = []
found_by (Claimed places free) = cond free places []

-- the places that were found or claimed
abbrev pub found_in : List SpaceCall → List Place
found_in calls = flat_map found_by calls

-- whether places were free is answered as it was at the beginning of the round
abbrev pub IsRightCall : Terms → SpaceCall → Type 0
IsRightCall t (Placed c) = Unit {0}
IsRightCall t (GaveBack place) = Unit {0}
IsRightCall t (Claimed places free) = free ≡ are_open t.used places

-- right for a round, behind these entries
pub record AreRight (t : Terms) (entries : List Choice) (calls : List SpaceCall) : Type 0 where
  pub claims : AllByRecursion (IsRightCall t) calls
  pub lawful : AreLawful (sizes_of t.setting.tops) t.used (entries ++ choices_in calls)

-- ---- a round's space

-- the places that some entries took
abbrev pub taken_by_all : List Choice → List Place
taken_by_all entries = flat_map taken_by entries

-- The space of a round: its entries are these, each lawful, and in use are the places that were in use at the round's start,
-- those that the entries took and those that were claimed.
pub record IsDeskOf (t : Terms) (entries : List Choice) (claimed : List Place) (tops : List Top)
    (st : SpaceState) : Type 0 where
  pub tops_are : tops ≡ t.setting.tops
  pub sizes_are : st.sizes ≡ sizes_of t.setting.tops
  pub entries_are : st.entries ≡ entries
  pub used_are : SamePlaces (used st) (claimed ++ (taken_by_all entries ++ t.used))
  pub lawful : AreLawful (sizes_of t.setting.tops) t.used entries

-- What a round may ask of its space: places for blocks where nothing was claimed; one claim, where nothing was found or claimed
-- before; and what only gives back.
pub data MayAsk (entries : List Choice) (claimed : List Place) (calls : List SpaceCall) : Type 0 where
  Places : claimed ≡ [] → claims_asked calls ≡ 0 → MayAsk entries claimed calls
  Claims : entries ≡ [] → claimed ≡ [] → choices_in calls ≡ [] → claims_asked calls ≤ 1 → MayAsk entries claimed calls
  Backs : choices_in calls ≡ [] → claims_asked calls ≡ 0 → MayAsk entries claimed calls

-- ---- with what was given back in the round

-- places that were claimed were open beside those in use at the round's start, and lie on the tops
pub record IsClaim (t : Terms) (claimed : List Place) : Type 0 where
  pub free : are_open t.used claimed ≡ true
  pub inside : LieOnTops (sizes_of t.setting.tops) claimed

-- A round's space, of which places for blocks were asked, or a claim. Live or pending are the places that were in use at the
-- round's start, those that the entries took and those that were claimed, each as often; pending are those that were given back.
pub record IsDeskAt (t : Terms) (entries : List Choice) (claimed back : List Place) (tops : List Top) (st : SpaceState) : Type 0 where
  pub desk : IsDeskOf t entries claimed tops st
  pub either : (entries ≡ []) ⊎ (claimed ≡ [])
  pub claim : IsClaim t claimed
  pub live : IsPermutation (st.live ++ st.pending) (t.used ++ (claimed ++ taken_by_all entries))
  pub pending_are : SamePlaces st.pending back

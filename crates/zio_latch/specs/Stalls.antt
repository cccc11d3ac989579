-- The waits of a history that park the owner, and the values that wake it.
use Rattle.std.specs.Prelude.{◌≡◌, ◌≢◌, ℕ, ◌+◌, List, [], ◌∷◌, ◌++◌, Bool, false, ◌&&◌, not, ◌==◌, true, None}
use Rattle.zio_types.specs.declared.request.ChildKind.{ChildKind}
use Rattle.zio_types.specs.declared.request.Phase.{Phase}
use Rattle.zio_types.specs.Machine.{Machine, after, count_of, fresh, is_stall, same_kind, same_phase, wakes}
use Rattle.zio_latch.specs.declared.view.Event.{Event}
use Rattle.zio_latch.specs.declared.view.Event.TheVariants.{Added, Gave, Waited}
use Rattle.zio_latch.specs.History.{AreValues, count_event, led, state_of, value_event}
use Rattle.zio_latch.specs.Kids.{one_if}

-- a wait on this count that parks the owner: the count isn't 0
abbrev pub parks : ChildKind → Phase → Event → Machine → Bool
parks kind phase (Added k) m = false
parks kind phase (Gave p k n) m = false
parks kind phase (Waited k p kids) m = same_kind k kind && (same_phase p phase && not (count_of k p m.children == 0))

-- a value of this kind and phase that wakes it
abbrev pub is_wake : ChildKind → Phase → Event → Machine → Bool
is_wake kind phase (Added k) m = false
is_wake kind phase (Gave p k n) m = same_kind k kind && (same_phase p phase && wakes (value_event p k n) m)
is_wake kind phase (Waited k p kids) m = false

-- how many events are such, where they lead on from a state
abbrev pub how_many : (Event → Machine → Bool) → Machine → List Event → ℕ
how_many is_such m [] = 0
how_many is_such m (e ∷ es) = one_if (is_such e m) + how_many is_such (after (count_event e) m) es

-- the waits of a history on this count that parked the owner
abbrev pub parked_waits : ChildKind → Phase → List Event → ℕ
parked_waits kind phase log = how_many (parks kind phase) fresh log

-- the values of this kind and phase that woke it
abbrev pub wakes_given : ChildKind → Phase → List Event → ℕ
wakes_given kind phase log = how_many (is_wake kind phase) fresh log

-- at the end of a history the owner is parked on this count
abbrev pub is_parked_on : ChildKind → Phase → List Event → Bool
is_parked_on kind phase log = is_stall kind phase (state_of log).stall

-- none of these events brings a wake, where they lead on from a state
abbrev pub AreQuiet : Machine → List Event → Type 0
AreQuiet m [] = Unit {0}
AreQuiet m (e ∷ es) = (wakes (count_event e) m ≡ false) × AreQuiet (after (count_event e) m) es

-- none brings a wake before the owner parks again
abbrev pub AreQuietUntilParked : Machine → List Event → Type 0
AreQuietUntilParked m [] = Unit {0}
AreQuietUntilParked m (e ∷ es) =
    (wakes (count_event e) m ≡ false)
    × ((after (count_event e) m).stall ≡ None → AreQuietUntilParked (after (count_event e) m) es)

-- Since this state, in which the owner was parked on a count, only values came, none of which woke it, and the count
-- isn't 0
pub record IsParkedStill (kind : ChildKind) (phase : Phase) (m : Machine) (since : List Event) : Type 0 where
  pub values : AreValues since
  pub quiet : AreQuiet m since
  pub owing : count_of kind phase (led m since).children ≢ 0

-- Since this state, in which the owner was parked on a count, only values came until one of them, which brought the
-- count to 0, woke it. From then on no wake comes before it parks again
pub record IsWokenOnce (kind : ChildKind) (phase : Phase) (m : Machine) (since : List Event) : Type 0 where
  pub until : List Event
  pub number : ℕ
  pub later : List Event
  pub since_is : since ≡ until ++ Gave phase kind number ∷ later
  pub values : AreValues until
  pub quiet : AreQuiet m until
  pub wake : wakes (value_event phase kind number) (led m until) ≡ true
  pub over : count_of kind phase (led m (until ++ Gave phase kind number ∷ [])).children ≡ 0
  pub once : AreQuietUntilParked (led m (until ++ Gave phase kind number ∷ [])) later

-- What an engine has to know of nodes, whatever they are: how far each is, whether it told its pointer, how often it runs, what it
-- gave back, and whether it may run.
use Rattle.std.specs.Prelude.{ℕ, List, [], Bool}
use Rattle.std.specs.List.{flat_map}
use Rattle.zio_types.specs.declared.place.Place.{Place}
use Rattle.zio_gang.specs.Attempts.{Ended, Terms}
use Rattle.zio_trace.specs.Tasks.{AttemptedBy, Value}
use Rattle.zio_frames.specs.Frames.{Stack}
use Rattle.zio_frames.specs.Slots.{Heard, IsOut, Slot}

-- Nodes: one is so far as this stack, told its pointer, runs less often than this, gave these places back, and may run: it isn't with its
-- leaf.
pub record Nodes (N : Type 0) : Type 1 where
  pub Is : Terms → N → Stack → Type 0
  pub told : N → Bool
  pub left : N → ℕ
  pub gave : N → List Place
  pub due : N → Type 0

abbrev pub ended_by : Value → List Ended
ended_by (AttemptedBy one) = one.ended
ended_by _ = []

abbrev pub ended_in_slot : Slot → List Ended
ended_in_slot (Heard v) = ended_by v
ended_in_slot (IsOut told) = []

-- the requests below a node that finished, as far as it heard of them
abbrev pub ended_in : Stack → List Ended
ended_in st = flat_map ended_in_slot st.outer.slots

-- A round under way, node by node.
use Rattle.std.specs.Prelude.{◌≡◌, ℕ, suc, List, [], ◌∷◌, length, map, Option, Some, None}
use Rattle.std.specs.List.{AllByRecursion, flat_map}
use Rattle.zio_types.specs.Choices.{Choice}
use Rattle.zio_cksum.specs.Images.{Images}
use Rattle.zio_gang.specs.Attempts.{Terms}
use Rattle.zio_trace.specs.Families.{Forest}
use Rattle.zio_trace.specs.Labels.{labelled}
use Rattle.zio_trace.specs.Rounds.{settles}
use Rattle.zio_trace.specs.SoundRounds.{work_of}
use Rattle.zio_trace.specs.Tasks.{Task, Value}
use Rattle.zio_trace.specs.Underway.{IsUnderway, State, early, plan_each}
use Rattle.zio_frames.specs.Frames.{Child, Flying, Stack, flights_of, fresh_stack, outs_from}
use Rattle.zio_frames.specs.OfRound.{IsOfRound}
use Rattle.zio_frames.specs.Seats.{IsSeated, slot_at}
use Rattle.zio_frames.specs.Slots.{Heard, IsOut, Slot, left_behind_slots}

-- The round's trees, as far as each is settled, and the nodes in flight, each of which does a part of the round's work; the
-- images before may be told or not.
pub record IsRunning (t : Terms) (sizes : ℕ → ℕ) (f : Forest) (before : Option Images) (trees : List Slot) (nodes : List Flying) (s : State) : Type 0 where
  pub underway : IsUnderway (work_of t sizes f) before s
  pub flights : s.flights ≡ flat_map (flights_of t) nodes
  pub root : s.root ≡ left_behind_slots trees (labelled [] 0 (plan_each (settles f)))
  pub outs : s.outs ≡ outs_from [] 0 (settles f) trees
  pub next : s.next ≡ length (settles f)
  pub each_tree : length trees ≡ length (settles f)
  pub seated : AllByRecursion (λ (x : Flying). IsSeated x.stack) nodes
  pub of_round : AllByRecursion (λ (x : Flying). IsOfRound t f s.entries x.stack) nodes

-- nothing is done: each tree is to be settled
abbrev pub settling_from : ℕ → List Task → List Flying
settling_from n [] = []
settling_from n (q ∷ qs) = record { at = n ∷ []; stack = fresh_stack q } ∷ settling_from (suc n) qs

abbrev pub all_out : List Task → List Slot
all_out tasks = map (λ (q : Task). IsOut None) tasks

-- each tree has its value
abbrev pub all_heard : List Value → List Slot
all_heard values = map (λ (v : Value). Heard v) values

-- the round goes on: with these trees and nodes, the entries that were made, and the images as they are
pub record Later (t : Terms) (sizes : ℕ → ℕ) (f : Forest) (before : Option Images) (trees : List Slot) (nodes : List Flying) (entries : List Choice) (images : Images) : Type 0 where
  pub state : State
  pub running : IsRunning t sizes f before trees nodes state
  pub entries_are : state.entries ≡ entries
  pub images_are : state.images ≡ images

-- a child that told a pointer has it
abbrev pub FitsSlot : Option Slot → Value → Type 0
FitsSlot (Some (IsOut (Some pointer))) v = early v ≡ pointer
FitsSlot _ v = Unit {0}

abbrev pub FitsTold : Stack → Child → Value → Type 0
FitsTold st c v = FitsSlot (slot_at st c.seat) v

-- What an engine keeps in a round of tasks whose journal isn't known yet.
use Rattle.std.specs.Prelude.{◌≡◌, ℕ, List, ◌⊎◌}
use Rattle.zio_types.specs.Choices.{Choice}
use Rattle.zio_gang.specs.Attempts.{Terms}
use Rattle.zio_trace.specs.Clearings.{AreClear, Reach, Seat}
use Rattle.zio_trace.specs.Conflicts.{TaskLies}
use Rattle.zio_trace.specs.Entries.{any_ways}
use Rattle.zio_trace.specs.Families.{Forest}
use Rattle.zio_trace.specs.Footprints.{Within}
use Rattle.zio_trace.specs.Going.{IsGoing, Slot}
use Rattle.zio_trace.specs.Labels.{IsIn, Labelled}
use Rattle.zio_trace.specs.Passing.{Copies, Passes}
use Rattle.zio_trace.specs.Programs.{Deed, Program}
use Rattle.zio_trace.specs.Rounds.{Round, plan_round}
use Rattle.zio_trace.specs.Tasks.{Task, Value}

-- The round after these deeds, with these nodes in flight, and so much left of its own program, of which so many
-- operations are out: what each node knows, and what is still to be asked, for any answers to asks.
abbrev pub Going : Terms → (ℕ → ℕ) → List Copies → Forest → List (Deed (Labelled Task) Value) → List (Slot Task Value) → Program (Labelled Task) Value Round → ℕ → Type 0
Going t sizes shared f ds slots root outs =
    IsGoing (any_ways t) (Passes t.setting shared) (TaskLies sizes) (λ op v. v) (plan_round f) ds slots root outs

-- an operation that a task in its place may do under a journal: itself, or one of a part of it
pub record MayDo (journal : List Choice) (t : Terms) (x d : Labelled Task) : Type 0 where
  pub within : Within journal t x.op d.op
  pub at : (d ≡ x) ⊎ ((n : ℕ) × (below : List ℕ) × IsIn x.at n below d.at)

-- which operations a task may do, and which may pass which
abbrev pub reach_in : List Choice → Terms → List Copies → Reach Task
reach_in journal t shared = record { Stays = MayDo journal t; Passes = Passes t.setting shared }

-- nodes in flight are clear of the deeds that stand behind them, and of one another
abbrev pub Clear : List Choice → Terms → List Copies → List (Deed (Labelled Task) Value) → List (Seat Task) → Type 0
Clear journal t shared ds seats = AreClear (reach_in journal t shared) ds seats

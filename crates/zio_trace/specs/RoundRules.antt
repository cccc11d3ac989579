-- The rules of a round of tasks, and what settles its trees.
use Rattle.std.specs.Prelude.{◌≡◌, ℕ, List, [], ◌∷◌, ◌++◌}
use Rattle.zio_cksum.specs.Images.{Images}
use Rattle.zio_gang.specs.Rounds.{settle_each}
use Rattle.zio_types.specs.Choices.{Ask, Choice}
use Rattle.zio_gang.specs.Attempts.{Terms}
use Rattle.zio_gang.specs.Writes.{chosen}
use Rattle.zio_trace.specs.Conflicts.{TaskLies, TasksApart, is_single}
use Rattle.zio_trace.specs.Families.{Forest}
use Rattle.zio_trace.specs.Footprints.{FitsTask, Within}
use Rattle.zio_trace.specs.Labels.{Labelled}
use Rattle.zio_trace.specs.Leaves.{HaveSizes}
use Rattle.zio_trace.specs.Oracles.{Ways, Shuffled, ops_of}
use Rattle.zio_trace.specs.Plans.{plan}
use Rattle.zio_trace.specs.Programs.{Deed}
use Rattle.zio_trace.specs.Rounds.{Round, trees_in}
use Rattle.zio_trace.specs.Rules.{Rules}
use Rattle.zio_trace.specs.Tasks.{Find, Found, Task, Value, means}
use Rattle.zio_trace.specs.Traces.{asked_by}

abbrev pub task_ways : List Choice → Terms → Ways Task Value
task_ways journal t = record { plan = plan t; single = is_single; Fits = FitsTask journal t }

-- an answer that fits, and the same where it did
abbrev pub mend_task : List Choice → Task → Value → Value
mend_task journal (Find a) v = Found (chosen journal a)
mend_task journal _ v = v

abbrev pub task_rules : List Choice → Terms → (ℕ → ℕ) → Rules Task Value
task_rules journal t sizes = record {
  ways = task_ways journal t;
  means = means journal t;
  Sound = HaveSizes sizes;
  Lies = TaskLies sizes;
  Apart = TasksApart;
  May = Within journal t;
  mend = mend_task journal;
}

-- what these operations ask places for
abbrev pub asks_in : List (Labelled Task) → List Ask
asks_in [] = []
asks_in (x ∷ xs) = asked_by x.op ++ asks_in xs

-- Each tree is settled with this value and these images, and each ask is made as often as in the history.
pub record IsSettled (journal : List Choice) (t : Terms) (f : Forest) (history : List (Deed (Labelled Task) Value)) (value : Round) (before after : Images) : Type 0 where
  pub asks : List Ask
  pub is : settle_each journal t (trees_in f) before ≡ record { left = value.left; ended = value.ended; asks = asks; images = after }
  pub as_often : Shuffled asks (asks_in (ops_of history))

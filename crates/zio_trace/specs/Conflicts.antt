-- Which tasks are single operations, which of these may change places, and where they lie.
use Rattle.std.specs.Prelude.{ℕ, Bool, true, false}
use Rattle.zio_trace.specs.Leaves.{AreApart, LiesOn}
use Rattle.zio_trace.specs.Tasks.{Task, Leaf, Find, TakePlaces}

-- operations on leaves and acts of the space are done at once; the others are whole parts of the work
abbrev pub is_single : Task → Bool
is_single (Leaf op) = true
is_single (Find a) = true
is_single (TakePlaces tree) = true
is_single _ = false

-- Two single operations don't conflict. An act of the space conflicts with no operation on a leaf, and with no other
-- act of asking, since the journal has the answers.
abbrev pub TasksApart : Task → Task → Type 0
TasksApart (Leaf a) (Leaf b) = AreApart a b
TasksApart (Leaf a) (Find b) = Unit {0}
TasksApart (Find a) (Leaf b) = Unit {0}
TasksApart (Find a) (Find b) = Unit {0}
TasksApart (Leaf a) (TakePlaces x) = Unit {0}
TasksApart (TakePlaces x) (Leaf a) = Unit {0}
TasksApart (Find a) (TakePlaces x) = Unit {0}
TasksApart (TakePlaces x) (Find a) = Unit {0}
TasksApart (TakePlaces x) (TakePlaces y) = Unit {0}
TasksApart _ _ = ⊥

-- a single operation on a leaf lies there
abbrev pub TaskLies : (ℕ → ℕ) → Task → Type 0
TaskLies sizes (Leaf a) = LiesOn sizes a
TaskLies sizes (Find a) = Unit {0}
TaskLies sizes (TakePlaces x) = Unit {0}
TaskLies sizes _ = ⊥

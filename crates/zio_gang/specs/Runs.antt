-- The run of a script: its rounds in their order, with the images and the bound names after each, and how it ends.
use Rattle.std.specs.Prelude.{ℕ, ◌+◌, ◌*◌, ◌/◌, min, List, [], ◌∷◌, ◌++◌, length, map, Bool, true, false, ◌&&◌, ◌||◌, not, Option, Some, None}
use Rattle.zio_types.specs.declared.place.Place.{Place}
use Rattle.zio_types.specs.declared.place.Top.{Top}
use Rattle.zio_types.specs.Choices.{Ask, Choice}
use Rattle.zio_types.specs.Places.{sector_size}
use Rattle.zio_faults.specs.declared.table.Row.{Row}
use Rattle.zio_script.specs.declared.script.Failmode.{Failmode}
use Rattle.zio_script.specs.declared.script.Failmode.TheVariants.{Wait, Continue, Panic as PanicMode}
use Rattle.zio_script.specs.declared.script.Item.{Item}
use Rattle.zio_script.specs.declared.script.Item.TheVariants.{Request as RequestLine, Go, Clear}
use Rattle.zio_script.specs.declared.script.Request.{Request}
use Rattle.zio_script.specs.declared.script.Script.{Script}
use Rattle.zio_script.specs.declared.script.TopLine.{TopLine}
use Rattle.zio_cksum.specs.Images.{Images, image_of}
use Rattle.zio_gang.specs.declared.ending.Ending.{Ending}
use Rattle.zio_gang.specs.declared.ending.Ending.TheVariants.{Complete, Panic, Left}
use Rattle.zio_gang.specs.Attempts.{Terms, Pending, Ended}
use Rattle.zio_gang.specs.Rounds.{Admitted, Bound, Ran, admitted, trees_of, is_bound, pending_trees, settle_each, bound_after, used_places}

-- ---- the tops

-- how many whole sectors the smallest of the leaves has
abbrev pub least_sectors : Images → List ℕ → ℕ
least_sectors images [] = 0
least_sectors images (leaf ∷ []) = length (image_of images leaf) / sector_size
least_sectors images (leaf ∷ other ∷ leaves) =
    min (length (image_of images leaf) / sector_size) (least_sectors images (other ∷ leaves))

-- a top has as many sectors as its smallest leaf has whole ones, rounded down to a multiple of its unit
-- Rule: sector units.
abbrev pub top_of : Images → TopLine → Top
top_of images line = record {
  leaves = line.leaves;
  sectors = least_sectors images line.leaves / line.unit * line.unit;
  unit = line.unit;
}

-- ---- what a run depends on

-- what a run depends on beside the first images: the tops, the fault table, the failmode and the journal's choices
pub record Plan : Type 0 where
  pub tops : List Top
  pub rows : List Row
  pub failmode : Failmode
  pub journal : List Choice

-- a script over these images, with the journal's choices
abbrev pub plan_of : Script → Images → List Choice → Plan
plan_of script images journal = record {
  tops = map (top_of images) script.tops;
  rows = script.faults;
  failmode = script.failmode;
  journal = journal;
}

-- ---- what happens in a run

-- one round: what it was and which places were in use at its start, what it asked for, which requests finished and which are
-- left of its trees, and what the pool is after it
pub record Round : Type 0 where
  pub number : ℕ
  -- none for the round of a clear
  pub batch : Option ℕ
  pub point : ℕ
  pub used : List Place
  pub asks : List Ask
  pub ended : List Ended
  pub left : List (List Pending)
  pub images : Images
  pub bound : Bound

-- a round was run, or a batch was held
pub data Event : Type 0 where
  RanRound : Round → Event
  HeldBatch : ℕ → Event

-- the requests up to a go, and the number of the batch
pub record Batch : Type 0 where
  pub number : ℕ
  pub requests : List Request

-- a run between two lines of the script
pub record State : Type 0 where
  pub images : Images
  pub bound : Bound
  pub point : ℕ
  pub suspended : List (List Pending)
  pub held : List Batch
  -- the requests since the last go
  pub batch : List Request
  -- how many batches were met, and how many rounds were run
  pub batches : ℕ
  pub rounds : ℕ
  pub panicked : Bool

-- what happened, and the state after it
pub record Course : Type 0 where
  pub events : List Event
  pub state : State

-- the state before the first line
abbrev pub start_state : Images → State
start_state images = record {
  images = images;
  bound = [];
  point = 0;
  suspended = [];
  held = [];
  batch = [];
  batches = 0;
  rounds = 0;
  panicked = false;
}

-- nothing happens
abbrev pub quiet : State → Course
quiet st = record { events = []; state = st }

-- what happened, in front of what happens later
abbrev pub add_events : List Event → Course → Course
add_events events later = record { events = events ++ later.events; state = later.state }

-- a course, and the one after it from the state that it left
abbrev pub then_course : Course → (State → Course) → Course
then_course c later = add_events c.events (later c.state)

-- ---- a round

-- a tree is suspended
abbrev pub has_trees : List (List Pending) → Bool
has_trees [] = false
has_trees (tree ∷ trees) = true

-- the failmode is panic
abbrev pub is_panic : Failmode → Bool
is_panic Wait = false
is_panic Continue = false
is_panic PanicMode = true

-- what the next round depends on: the places that are used are those of all bound blocks
-- Rule: deferred free.
abbrev pub terms_of : Plan → State → Terms
terms_of plan st = record {
  setting = record { tops = plan.tops; rows = plan.rows; point = st.point };
  failmode = plan.failmode;
  round = st.rounds + 1;
  used = used_places st.bound;
}

-- the round that was run: who was answered before it, and what its trees came to
-- Rule: numbering.
abbrev pub round_of : State → Option ℕ → List Ended → Ran → Round
round_of st batch answered ran = record {
  number = st.rounds + 1;
  batch = batch;
  point = st.point;
  used = used_places st.bound;
  asks = ran.asks;
  ended = answered ++ ran.ended;
  left = ran.left;
  images = ran.images;
  bound = bound_after ran.ended st.bound;
}

-- a tree that is left ends the run under panic
-- Rule: panic.
abbrev pub after_round : Plan → State → List (List Pending) → Round → Course
after_round plan st suspended round = record {
  events = RanRound round ∷ [];
  state = record st {
    images = round.images;
    bound = round.bound;
    suspended = suspended ++ round.left;
    rounds = st.rounds + 1;
    panicked = is_panic plan.failmode && has_trees round.left;
  };
}

-- the round of a batch after admission
abbrev pub run_admitted : Plan → State → ℕ → Admitted → Course
run_admitted plan st number a =
    after_round plan st st.suspended
    (round_of st (Some number) a.answered
    (settle_each plan.journal (terms_of plan st) (pending_trees st.bound number a.trees) st.images))

-- a batch is one round, beside what is suspended
-- Rule: go.
abbrev pub run_batch : Plan → Batch → State → Course
run_batch plan batch st =
    run_admitted plan st batch.number (admitted st.suspended (is_bound st.bound) (trees_of batch.requests))

-- the suspended trees are one round
-- Rule: clear.
abbrev pub run_suspended : Plan → State → Course
run_suspended plan st =
    after_round plan st [] (round_of st None [] (settle_each plan.journal (terms_of plan st) st.suspended st.images))

-- ---- lines of the script

-- the batch waits behind those that are held
abbrev pub held_batch : Batch → State → Course
held_batch batch st = record { events = HeldBatch batch.number ∷ []; state = record st { held = st.held ++ batch ∷ [] } }

-- batches run although something is suspended
abbrev pub goes_on : Failmode → Bool
goes_on Wait = false
goes_on Continue = true
goes_on PanicMode = false

-- the batch runs or is held
abbrev pub go_if : Bool → Plan → Batch → State → Course
go_if true plan batch st = run_batch plan batch st
go_if false plan batch st = held_batch batch st

-- a batch runs where nothing is suspended or the run goes on without; else it is held
-- Rule: go.
abbrev pub go : Plan → Batch → State → Course
go plan batch st = go_if (not (has_trees st.suspended) || goes_on plan.failmode) plan batch st

-- a go line: the requests since the last one become the next batch
-- Rule: numbering.
abbrev pub go_line : Plan → State → Course
go_line plan st =
    go plan (record { number = st.batches + 1; requests = st.batch }) (record st { batch = []; batches = st.batches + 1 })

-- the suspended trees run, if there are any
abbrev pub clear_if : Bool → Plan → State → Course
clear_if true plan st = run_suspended plan st
clear_if false plan st = quiet st

-- the held batches stay, or the next one runs
abbrev pub held_if : Bool → List Batch → State → (State → Course) → Course
held_if true held st run = quiet (record st { held = held })
held_if false held st run = run st

-- held batches run in order while nothing is suspended
unfoldable pub run_held : Plan → List Batch → State → Course
run_held plan [] st = quiet (record st { held = [] })
run_held plan (batch ∷ held) st =
    held_if (has_trees st.suspended) (batch ∷ held) st (λ now. then_course (run_batch plan batch now) (run_held plan held))

-- the held batches run after the suspended trees
abbrev pub held_after : Plan → State → Course
held_after plan st = run_held plan st.held st

-- the resume point rises; suspended trees run, and then held batches
-- Rule: clear.
abbrev pub clear_line : Plan → State → Course
clear_line plan st = then_course (clear_if (has_trees st.suspended) plan (record st { point = st.point + 1 })) (held_after plan)

-- what one line of the script does
abbrev pub line : Plan → Item → State → Course
line plan (RequestLine r) st = quiet (record st { batch = st.batch ++ r ∷ [] })
line plan Go st = go_line plan st
line plan Clear st = clear_line plan st

-- nothing happens after a panic
-- Rule: panic.
abbrev pub line_if : Bool → Plan → Item → State → Course
line_if true plan item st = quiet st
line_if false plan item st = line plan item st

-- the lines of a script in turn
unfoldable pub run_lines : Plan → List Item → State → Course
run_lines plan [] st = quiet st
run_lines plan (item ∷ items) st = then_course (line_if st.panicked plan item st) (run_lines plan items)

-- ---- the meaning of a script

-- the run of a script over these images, with the journal's choices
abbrev pub run_script : Script → Images → List Choice → Course
run_script script images journal = run_lines (plan_of script images journal) script.items (start_state images)

-- the run left something, or is complete
abbrev pub left_if : Bool → Ending
left_if true = Left
left_if false = Complete

-- a batch is held
abbrev pub has_held : List Batch → Bool
has_held [] = false
has_held (batch ∷ held) = true

-- a panic, or how the run ended without one
abbrev pub ending_if : Bool → State → Ending
ending_if true st = Panic
ending_if false st = left_if (has_trees st.suspended || has_held st.held)

-- a panic ends the run; else a tree is suspended or a batch held, or all is complete
-- Rule: panic.
abbrev pub ending : State → Ending
ending st = ending_if st.panicked st

-- a round in front of the later ones
abbrev pub add_round : Event → List Round → List Round
add_round (RanRound round) rounds = round ∷ rounds
add_round (HeldBatch batch) rounds = rounds

-- the rounds among what happened
abbrev pub rounds_of : List Event → List Round
rounds_of [] = []
rounds_of (event ∷ events) = add_round event (rounds_of events)

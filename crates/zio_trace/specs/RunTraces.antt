-- The rounds of a run by what each begins with, and the trace of a whole run.
use Rattle.std.specs.Prelude.{◌≡◌, ℕ, ◌+◌, List, [], ◌∷◌, ◌++◌, map, Bool, true, false, ◌||◌, not, Option, Some, None}
use Rattle.std.specs.List.{flat_map}
use Rattle.zio_types.specs.Choices.{Choice}
use Rattle.zio_script.specs.declared.script.Item.{Item}
use Rattle.zio_script.specs.declared.script.Item.TheVariants.{Request as RequestLine, Go, Clear}
use Rattle.zio_script.specs.declared.script.Script.{Script}
use Rattle.zio_cksum.specs.Images.{Images}
use Rattle.zio_gang.specs.Attempts.{Ended, Pending, Terms}
use Rattle.zio_gang.specs.Rounds.{Admitted, Bound, Ran, admitted, bound_after, is_bound, pending_trees, settle_each, trees_of}
use Rattle.zio_gang.specs.Runs.{Batch, Plan, Round, State, clear_if, goes_on, has_trees, line_if, plan_of, run_batch, start_state, terms_of}
use Rattle.zio_trace.specs.Families.{Forest}
use Rattle.zio_trace.specs.Keys.{NumbersOnce}
use Rattle.zio_trace.specs.Programs.{Deed, Meaning}
use Rattle.zio_trace.specs.RoundTraces.{LeadsBy, Trace, round_trace}
use Rattle.zio_trace.specs.Rounds.{AreTrees, trees_in}
use Rattle.zio_trace.specs.Tasks.{Task, Value, means}

-- ---- what a round begins with

pub record RoundStart : Type 0 where
  pub terms : Terms
  -- none for the round of a clear
  pub batch : Option ℕ
  -- the requests that admission answered before it
  pub answered : List Ended
  pub trees : List (List Pending)
  pub images : Images
  pub bound : Bound

-- the round that comes of running the trees
abbrev pub round_after : RoundStart → Ran → Round
round_after s ran = record {
  number = s.terms.round;
  batch = s.batch;
  point = s.terms.setting.point;
  used = s.terms.used;
  asks = ran.asks;
  ended = s.answered ++ ran.ended;
  left = ran.left;
  images = ran.images;
  bound = bound_after ran.ended s.bound;
}

abbrev pub round_from : List Choice → RoundStart → Round
round_from journal s = round_after s (settle_each journal s.terms s.trees s.images)

-- ---- the starts of a run

abbrev pub start_with : Plan → State → Option ℕ → List Ended → List (List Pending) → RoundStart
start_with plan st batch answered trees = record {
  terms = terms_of plan st;
  batch = batch;
  answered = answered;
  trees = trees;
  images = st.images;
  bound = st.bound;
}

abbrev pub start_admitted : Plan → State → ℕ → Admitted → RoundStart
start_admitted plan st number a = start_with plan st (Some number) a.answered (pending_trees st.bound number a.trees)

-- a batch after admission, and the suspended trees
abbrev pub batch_start : Plan → Batch → State → RoundStart
batch_start plan batch st =
    start_admitted plan st batch.number (admitted st.suspended (is_bound st.bound) (trees_of batch.requests))

abbrev pub suspended_start : Plan → State → RoundStart
suspended_start plan st = start_with plan st None [] st.suspended

abbrev pub starts_if : Bool → RoundStart → List RoundStart
starts_if true s = s ∷ []
starts_if false s = []

-- a batch runs where nothing is suspended or the run goes on without
abbrev pub go_starts : Plan → Batch → State → List RoundStart
go_starts plan batch st = starts_if (not (has_trees st.suspended) || goes_on plan.failmode) (batch_start plan batch st)

abbrev pub held_starts_if : Bool → Plan → Batch → State → (State → List RoundStart) → List RoundStart
held_starts_if true plan batch st later = []
held_starts_if false plan batch st later = batch_start plan batch st ∷ later (run_batch plan batch st).state

-- held batches run while nothing is suspended
abbrev pub held_starts : Plan → List Batch → State → List RoundStart
held_starts plan [] st = []
held_starts plan (batch ∷ held) st = held_starts_if (has_trees st.suspended) plan batch st (held_starts plan held)

-- the suspended trees run, if there are any, and then held batches
abbrev pub clear_starts : Bool → Plan → State → List RoundStart
clear_starts has plan st =
    let then : State = (clear_if has plan st).state in
    starts_if has (suspended_start plan st) ++ held_starts plan then.held then

abbrev pub line_starts : Plan → Item → State → List RoundStart
line_starts plan (RequestLine r) st = []
line_starts plan Go st =
    go_starts plan (record { number = st.batches + 1; requests = st.batch }) (record st { batch = []; batches = st.batches + 1 })
line_starts plan Clear st = clear_starts (has_trees st.suspended) plan (record st { point = st.point + 1 })

-- nothing starts after a panic
abbrev pub line_starts_if : Bool → Plan → Item → State → List RoundStart
line_starts_if true plan item st = []
line_starts_if false plan item st = line_starts plan item st

-- line after line, each from the state that the one before left
abbrev pub starts_from : Plan → List Item → State → List RoundStart
starts_from plan [] st = []
starts_from plan (item ∷ items) st =
    line_starts_if st.panicked plan item st ++ starts_from plan items (line_if st.panicked plan item st).state

abbrev pub starts_of : Script → Images → List Choice → List RoundStart
starts_of script images journal = starts_from (plan_of script images journal) script.items (start_state images)

-- the first begins with the images before, each later one with those that the one before it left, and the last leaves
-- the images after
abbrev pub AreJoined : List Choice → List RoundStart → Images → Images → Type 0
AreJoined journal [] before after = before ≡ after
AreJoined journal (s ∷ starts) before after =
    (s.images ≡ before) × AreJoined journal starts (round_from journal s).images after

-- these trees as families, each request under its parent, and no number twice among them
pub record AreFamilies (trees : List (List Pending)) : Type 0 where
  pub forest : Forest
  pub are : AreTrees forest
  pub once : NumbersOnce forest
  pub is : trees_in forest ≡ trees

-- ---- traces

abbrev pub trace_from : (Task → Bool) → List Choice → RoundStart → Trace
trace_from stops journal s = round_trace stops journal s.terms s.trees s.images

-- it leads from the images of the start to those that the round leaves, and asks for what the round asks for
abbrev pub IsRoundTrace : (Task → Bool) → List Choice → RoundStart → Trace → Type 0
IsRoundTrace stops journal s ds =
    LeadsBy stops journal s.terms ds s.images (round_from journal s).images (round_from journal s).asks

-- one list a round
abbrev pub trace_of_run : (Task → Bool) → Script → Images → List Choice → List Trace
trace_of_run stops script images journal = map (trace_from stops journal) (starts_of script images journal)

-- a task with the terms of its round
pub record InRound : Type 0 where
  pub terms : Terms
  pub task : Task

abbrev pub means_in_rounds : List Choice → Meaning InRound Value
means_in_rounds journal x images = means journal x.terms x.task images

abbrev pub in_round : Terms → Deed Task Value → Deed InRound Value
in_round t d = record { op = record { terms = t; task = d.op }; answer = d.answer }

abbrev pub trace_in_rounds : (Task → Bool) → List Choice → List RoundStart → List (Deed InRound Value)
trace_in_rounds stops journal starts =
    flat_map (λ (s : RoundStart). map (in_round s.terms) (trace_from stops journal s)) starts

-- all rounds' traces joined
abbrev pub whole_trace : (Task → Bool) → Script → Images → List Choice → List (Deed InRound Value)
whole_trace stops script images journal = trace_in_rounds stops journal (starts_of script images journal)

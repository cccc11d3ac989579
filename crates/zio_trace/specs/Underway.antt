-- Tasks under way together: what an engine keeps at every moment, while their operations are done in any order.
use Rattle.std.specs.Prelude.{◌≡◌, ℕ, ◌≤◌, suc, cond, List, [], ◌∷◌, ◌++◌, length, map, true, false, Option, Some, None, Contains, ◌⊎◌}
use Rattle.std.specs.List.{AllByRecursion, flat_map}
use Rattle.zio_types.specs.declared.journal.Key.{Key}
use Rattle.zio_types.specs.Choices.{Choice}
use Rattle.zio_blkptr.specs.declared.pointer.Bp.{Bp}
use Rattle.zio_cksum.specs.Images.{Images}
use Rattle.zio_gang.specs.Attempts.{Terms}
use Rattle.zio_gang.specs.Journals.{AreLawful, HaveDistinctKeys, asks_of}
use Rattle.zio_gang.specs.Trees.{sizes_of}
use Rattle.zio_trace.specs.Calls.{answered_at}
use Rattle.zio_trace.specs.Clearings.{AllPairs, Free, Seat}
use Rattle.zio_trace.specs.Conflicts.{TaskLies, is_single}
use Rattle.zio_trace.specs.Engines.{Clear, MayDo, reach_in}
use Rattle.zio_trace.specs.Entries.{MayCome, PassIf, Recorded, any_ways}
use Rattle.zio_trace.specs.Footprints.{Within}
use Rattle.zio_trace.specs.Going.{IsGoing, Slot}
use Rattle.zio_trace.specs.Keys.{key_weight}
use Rattle.zio_trace.specs.Labels.{IsIn, Labelled, labelled, ways_at}
use Rattle.zio_trace.specs.Oracles.{Agrees, IsOracle, Oracle, Shuffled, Sure, Ways, asked_in, heard, weigh}
use Rattle.zio_trace.specs.Passing.{Copies, Passes}
use Rattle.zio_trace.specs.Plans.{TaskPlan, plan}
use Rattle.zio_trace.specs.Programs.{Asks, Deed, Ends, Program, ◌>>=◌, ask}
use Rattle.zio_trace.specs.Tasks.{AttemptedBy, StoredAs, Task, Value}
use Rattle.zio_trace.specs.Traces.{asked_by}
use Rattle.zio_trace.specs.Views.{NumberedFrom, Out, StandFirst, ToldTrue, left_behind, nth, telling, without}

-- ---- what is to be done

-- The terms, the sizes of the leaves, the pieces of blocks that several readers read, and the tasks.
pub record Work : Type 0 where
  pub terms : Terms
  pub sizes : ℕ → ℕ
  pub shared : List Copies
  pub tasks : List Task

-- all of them, and their values
abbrev pub plan_each : List Task → TaskPlan (List Value)
plan_each [] = Ends []
plan_each (q ∷ qs) = ask q >>= λ v. plan_each qs >>= λ vs. Ends (v ∷ vs)

-- a lawful journal that begins with these entries
abbrev pub Comes : Work → List Choice → List Choice → Type 0
Comes w entries journal = MayCome (sizes_of w.terms.setting.tops) w.terms.used entries journal

-- the task of this number may pass those behind it
abbrev pub IsFreeOf : List Choice → Work → ℕ → Task → ℕ → List Task → Type 0
IsFreeOf journal w n q m [] = Unit {0}
IsFreeOf journal w n q m (r ∷ rs) =
    Free (reach_in journal w.terms w.shared) (record { at = n ∷ []; op = q }) (record { at = m ∷ []; op = r })
    × IsFreeOf journal w n q (suc m) rs

abbrev pub AreFree : List Choice → Work → ℕ → List Task → Type 0
AreFree journal w n [] = Unit {0}
AreFree journal w n (q ∷ qs) = IsFreeOf journal w n q (suc n) qs × AreFree journal w (suc n) qs

-- What the tasks have to be: whatever lawful journal comes, none conflicts with another, and all that they do lies on the
-- leaves; and no key is asked for twice.
pub record IsSound (w : Work) : Type 0 where
  pub free : (journal : List Choice) → Comes w [] journal → AreFree journal w 0 w.tasks
  pub lies : (journal : List Choice) → Comes w [] journal →
      AllByRecursion (λ (q : Task). (d : Task) → is_single d ≡ true → Within journal w.terms q d → TaskLies w.sizes d) w.tasks
  pub once : (k : Key) (o : Oracle (Labelled Task) Value) → IsOracle (ways_at (any_ways w.terms)) o →
      weigh (λ (x : Labelled Task). weigh (key_weight k) (asked_by x.op)) (asked_in o (labelled [] 0 (plan_each w.tasks))) ≤ 1

-- ---- what is under way

-- an operation that is out: its number, and the pointer that its value was told to have, before it ended
abbrev pub Call : Type 0
Call = Out Task (Option Bp)

-- A node in flight: its operation, what is left of its plan, those of its operations that are out, which stand first in
-- what is left, and the number of the next one.
pub record Flight : Type 0 where
  pub op : Labelled Task
  pub rest : Program (Labelled Task) Value Value
  pub outs : List Call
  pub next : ℕ

-- a single operation has itself to do, and another its plan
abbrev pub plan_at : Terms → Labelled Task → Program (Labelled Task) Value Value
plan_at t x = cond (is_single x.op) (Asks x (λ v. Ends v)) (labelled x.at 0 (plan t x.op))

-- nothing of it is done
abbrev pub flight_of : Terms → Labelled Task → Flight
flight_of t x = record { op = x; rest = plan_at t x; outs = []; next = 0 }

-- an operation in its place in a part
abbrev pub part_of : List ℕ → ℕ → Task → Labelled Task
part_of at n op = record { at = at ++ n ∷ []; op = op }

abbrev pub call_of : List ℕ → ℕ → Task → Call
call_of at n op = record { number = n; op = part_of at n op; told = None }

-- one more is out
abbrev pub with_out : Flight → Task → Flight
with_out x op = record { op = x.op; rest = x.rest; outs = x.outs ++ call_of x.op.at x.next op ∷ []; next = suc x.next }

-- the nth that is out told this pointer
abbrev pub with_told : Flight → ℕ → Option Bp → Flight
with_told x n pointer = record { op = x.op; rest = x.rest; outs = telling n pointer x.outs; next = x.next }

-- the nth that is out is answered
abbrev pub with_answer : Flight → ℕ → Value → Flight
with_answer x n v = record { op = x.op; rest = answered_at n v x.rest; outs = without n x.outs; next = x.next }

abbrev pub slot_of : Flight → Slot Task Value
slot_of x = record { op = x.op; rest = x.rest; outs = length x.outs }

abbrev pub seat_of : Flight → Seat Task
seat_of x = record { op = x.op; next = x.next }

-- What was done, the entries that answered asks, the nodes in flight, what is left of asking for the tasks, and the images.
pub record State : Type 0 where
  pub deeds : List (Deed (Labelled Task) Value)
  pub entries : List Choice
  pub flights : List Flight
  pub root : Program (Labelled Task) Value (List Value)
  pub outs : List Call
  pub next : ℕ
  pub images : Images

-- nothing is done yet
abbrev pub at_start : Work → Images → State
at_start w images = record {
  deeds = [];
  entries = [];
  flights = [];
  root = labelled [] 0 (plan_each w.tasks);
  outs = [];
  next = 0;
  images = images;
}

-- it holds by these deeds, whatever may still be answered
abbrev pub KnownBy : Terms → List (Deed (Labelled Task) Value) → (Oracle (Labelled Task) Value → Type 0) → Type 0
KnownBy t ds P = Sure (ways_at (any_ways t)) ds P

abbrev pub Known : Work → State → (Oracle (Labelled Task) Value → Type 0) → Type 0
Known w s P = KnownBy w.terms s.deeds P

-- the operations that the program itself asks, as the oracle answers them
abbrev pub calls_in : {Op Ans A : Type 0} → Oracle Op Ans → Program Op Ans A → List Op
calls_in o (Ends a) = []
calls_in o (Asks op more) = op ∷ calls_in o (more (o.answer op))

abbrev pub ops_in_flight : List Flight → List (Labelled Task)
ops_in_flight flights = map (λ (x : Flight). x.op) flights

abbrev pub ops_out : List Call → List (Labelled Task)
ops_out outs = map (λ (c : Call). c.op) outs

abbrev pub told_of : List Call → List (Option (Option Bp))
told_of outs = map (λ (c : Call). c.told) outs

-- the pointer that a part, or a request, hands on before it ended
abbrev pub early : Value → Option Bp
early (StoredAs x) = x.pointer
early (AttemptedBy x) = x.return.child.pointer
early _ = None

-- Of a plan this is left: those that are out stand first, and what they told is true; those behind them have the numbers
-- that follow; and all are the plan's.
pub record IsLeft {A : Type 0} (o : Oracle (Labelled Task) Value) (at : List ℕ) (whole rest : Program (Labelled Task) Value A) (outs : List Call) (next : ℕ) : Type 0 where
  pub first : StandFirst o outs rest
  pub told : ToldTrue early o (told_of outs) rest
  pub numbered : NumberedFrom at next (left_behind o (length outs) rest)
  pub called : AllByRecursion (Contains (calls_in o whole)) (calls_in o rest)

-- what is known of a node in flight
pub record IsFlying (t : Terms) (ds : List (Deed (Labelled Task) Value)) (x : Flight) : Type 0 where
  pub single : is_single x.op.op ≡ true → (x.outs ≡ []) × ((x.rest ≡ Asks x.op (λ v. Ends v)) ⊎ ((v : Value) × (x.rest ≡ Ends v)))
  pub left : is_single x.op.op ≡ false → KnownBy t ds (λ o. IsLeft o x.op.at (labelled x.op.at 0 (plan t x.op.op)) x.rest x.outs x.next)

-- what the first may do in its place, the second may do
abbrev pub DoesNoMore : List Choice → Terms → Labelled Task → Labelled Task → Type 0
DoesNoMore journal t x y = (d : Labelled Task) → MayDo journal t x d → MayDo journal t y d

-- where the second is within the first, it is in one of its operations that are out, and does no more than that
abbrev pub StandsWithin : List Choice → Terms → Flight → Flight → Type 0
StandsWithin journal t x y = (n : ℕ) (below : List ℕ) → IsIn x.op.at n below y.op.at →
    (c : Labelled Task) × Contains (ops_out x.outs) c × (c.at ≡ x.op.at ++ n ∷ []) × DoesNoMore journal t y.op c

-- it is in one of the tasks, and does no more than that
abbrev pub StandsInTask : List Choice → Work → Flight → Type 0
StandsInTask journal w x = (n : ℕ) × (below : List ℕ) × (q : Task) × (x.op.at ≡ n ∷ below) × (nth n w.tasks ≡ Some q)
    × DoesNoMore journal w.terms x.op (part_of [] n q)

pub record AreNested (journal : List Choice) (w : Work) (flights : List Flight) : Type 0 where
  pub within : AllPairs (StandsWithin journal w.terms) flights
  pub whole : AllByRecursion (StandsInTask journal w) flights

-- each operation that is out is in flight, once
abbrev pub AreLinked : List Flight → List Call → Type 0
AreLinked flights outs = Shuffled (ops_in_flight flights) (flat_map (λ (x : Flight). ops_out x.outs) flights ++ ops_out outs)

-- the place is in one of the parts that were handed out
abbrev pub WasHandedOut : ℕ → List ℕ → Type 0
WasHandedOut next at = (n : ℕ) × (below : List ℕ) × (at ≡ n ∷ below) × (suc n ≤ next)

-- Under a journal that may come those in flight are clear of what was done and of one another, and nested.
pub record IsClear (w : Work) (ds : List (Deed (Labelled Task) Value)) (flights : List Flight) (journal : List Choice) : Type 0 where
  pub clear : Clear journal w.terms w.shared ds (map seat_of flights)
  pub nested : AreNested journal w flights

-- The work is under way. The entries are a lawful journal, and what was done led from the images before, where they are told,
-- to those now.
pub record IsUnderway (w : Work) (before : Option Images) (s : State) : Type 0 where
  pub going : IsGoing (any_ways w.terms) (Passes w.terms.setting w.shared) (TaskLies w.sizes) (λ op v. v) (plan_each w.tasks) s.deeds (map slot_of s.flights) s.root (length s.outs)
  pub flying : AllByRecursion (IsFlying w.terms s.deeds) s.flights
  pub root : Known w s (λ o. IsLeft o [] (labelled [] 0 (plan_each w.tasks)) s.root s.outs s.next)
  pub linked : AreLinked s.flights s.outs
  pub done_below : AllByRecursion (λ (d : Deed (Labelled Task) Value). WasHandedOut s.next d.op.at) s.deeds
  pub flown_below : AllByRecursion (λ (x : Flight). WasHandedOut s.next x.op.at) s.flights
  pub clear : (journal : List Choice) → Comes w s.entries journal → IsClear w s.deeds s.flights journal
  pub recorded : Recorded s.deeds s.entries
  pub lawful : AreLawful (sizes_of w.terms.setting.tops) w.terms.used s.entries
  pub distinct : HaveDistinctKeys (asks_of s.entries)
  pub pass : PassIf w.terms s.deeds before s.images

-- Some oracle of these ways agrees with all that was done, and by it the tasks have these values.
pub record AreAnswered (ways : Ways Task Value) (tasks : List Task) (ds : List (Deed (Labelled Task) Value)) (values : List Value) : Type 0 where
  pub oracle : Oracle (Labelled Task) Value
  pub is : IsOracle (ways_at ways) oracle
  pub agrees : Agrees oracle ds
  pub values_are : heard oracle (labelled [] 0 (plan_each tasks)) ≡ values

-- ---- what a move leaves

-- these are in flight
abbrev pub flying_now : State → List Flight → State
flying_now s flights = record {
  deeds = s.deeds;
  entries = s.entries;
  flights = flights;
  root = s.root;
  outs = s.outs;
  next = s.next;
  images = s.images;
}

-- a task was handed out
abbrev pub root_out : Work → State → Task → State
root_out w s op = record {
  deeds = s.deeds;
  entries = s.entries;
  flights = flight_of w.terms (part_of [] s.next op) ∷ s.flights;
  root = s.root;
  outs = s.outs ++ call_of [] s.next op ∷ [];
  next = suc s.next;
  images = s.images;
}

-- the first in flight did its operation: with this answer, these entries and these images
abbrev pub after_deed : State → Flight → List Flight → Value → List Choice → Images → State
after_deed s x others v entries images = record {
  deeds = s.deeds ++ record { op = x.op; answer = v } ∷ [];
  entries = entries;
  flights = record { op = x.op; rest = Ends v; outs = []; next = x.next } ∷ others;
  root = s.root;
  outs = s.outs;
  next = s.next;
  images = images;
}

-- a task ended with this value: it was the nth that is out, and these are left in flight
abbrev pub after_task : State → List Flight → ℕ → Value → State
after_task s flights n v = record {
  deeds = s.deeds;
  entries = s.entries;
  flights = flights;
  root = answered_at n v s.root;
  outs = without n s.outs;
  next = s.next;
  images = s.images;
}

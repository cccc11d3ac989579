-- What is in flight for a tree of a round: its attempts one after another, as the plan of settling a tree asks them.
use Rattle.std.specs.Prelude.{◌≡◌, ℕ, ◌+◌, List, [], ◌∷◌, ◌++◌, length, slice_get, false, Option, Some, None}
use Rattle.std.specs.List.{flat_map}
use Rattle.zio_gang.specs.Attempts.{Ended, Pending, Terms, reexecutions_max}
use Rattle.zio_blkptr.specs.declared.pointer.Bp.{Bp}
use Rattle.zio_trace.specs.Families.{Forest}
use Rattle.zio_trace.specs.Plans.{TaskPlan, plan, plan_settle}
use Rattle.zio_trace.specs.Programs.{Ends, ◌>>=◌}
use Rattle.zio_trace.specs.Tasks.{Attempt, One, Settle, Settled, SettledBy, Task, Value}
use Rattle.zio_frames.specs.Frames.{Child, OfOuter, Stack, left_of}
use Rattle.zio_frames.specs.Slots.{AllHeard, IsOut, Slot, left_behind_slots}
use Rattle.zio_staged.specs.Parts.{ended_in, ended_in_slot}

-- with these requests ended before
abbrev pub settled_behind : List Ended → Settled → Value
settled_behind ended x = SettledBy (record { ended = ended ++ x.ended; again = x.again; left = x.left })

-- what is to be done still, where this tree is attempted next, and so many times more at most
abbrev pub rest_from : ℕ → ℕ → Pending → Forest → List Ended → TaskPlan Value
rest_from more attempt p kids ended = plan_settle more attempt p kids >>= λ x. Ends (settled_behind ended x)

-- what is left of a tree to attempt: so many times more at most, the number of the next attempt, and the requests that ended
pub record Course : Type 0 where
  pub more : ℕ
  pub attempt : ℕ
  pub request : Pending
  pub kids : Forest
  pub ended : List Ended

abbrev pub rest_of : Course → TaskPlan Value
rest_of c = rest_from c.more c.attempt c.request c.kids c.ended

abbrev pub attempt_of : Course → Task
attempt_of c = Attempt c.attempt c.request c.kids

-- the task settles a tree
abbrev pub IsSettle : Task → Type 0
IsSettle (Settle p kids) = Unit {0}
IsSettle _ = ⊥

-- nothing of it is out: the course's attempt comes next
pub record IsBetween (t : Terms) (c : Course) (st : Stack) : Type 0 where
  pub settles : IsSettle st.outer.op
  pub alone : st.inner ≡ None
  pub heard : AllHeard st.outer.slots
  pub full : length st.outer.asked ≡ length st.outer.slots
  pub rest : left_of t st.outer ≡ rest_of c
  pub number : length st.children ≡ c.attempt
  pub none : (n : ℕ) (child : Child) → slice_get st.children n ≡ Some child → child.ended ≡ false → ⊥
  pub ended_are : ended_in st ≡ c.ended

-- the course's attempt is out, and its last child does it
pub record IsAttempting (t : Terms) (c : Course) (st : Stack) : Type 0 where
  pub settles : IsSettle st.outer.op
  pub alone : st.inner ≡ None
  pub before : List Slot
  pub told : Option (Option Bp)
  pub slots : st.outer.slots ≡ before ++ IsOut told ∷ []
  pub heard : AllHeard before
  pub full : length st.outer.asked ≡ length st.outer.slots
  pub asked : slice_get st.outer.asked (length before) ≡ Some (attempt_of c)
  pub rest : left_behind_slots before (plan t st.outer.op) ≡ rest_of c
  pub number : length st.children ≡ c.attempt + 1
  pub child : Child
  pub there : slice_get st.children c.attempt ≡ Some child
  pub going : child.ended ≡ false
  pub one : (n : ℕ) (child : Child) → slice_get st.children n ≡ Some child → child.ended ≡ false
      → (n ≡ c.attempt) × (child.seat ≡ OfOuter (length before))
  pub ended_are : flat_map ended_in_slot before ≡ c.ended

-- ---- behind an attempt

-- the same tree is attempted again
abbrev pub again_with : Course → One → ℕ → Pending → Forest → Course
again_with c one more p kids =
    record { more = more; attempt = c.attempt + 1; request = p; kids = kids; ended = c.ended ++ one.ended }

-- the tree settled with that
abbrev pub settled_with : Course → One → Value
settled_with c one = settled_behind c.ended (record { ended = one.ended; again = one.again; left = one.left })

-- nothing is done
abbrev pub course_of : Pending → Forest → Course
course_of p kids = record { more = reexecutions_max; attempt = 0; request = p; kids = kids; ended = [] }

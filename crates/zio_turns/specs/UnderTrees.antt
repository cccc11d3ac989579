-- What an engine keeps of its round where a tree begins an attempt, and hears of one.
use Rattle.std.specs.Prelude.{◌≡◌, ℕ, ◌+◌, ◌-◌, List, [], ◌∷◌, ◌++◌, Option, Some, None, IfSome, ◌<◌, ◌≤◌, length, slice_get, slice_set}
use Rattle.std.specs.List.{AllByRecursion}
use Rattle.zio_types.specs.Choices.{Choice}
use Rattle.zio_types.specs.declared.request.Bits.{Bits}
use Rattle.zio_blkptr.specs.declared.pointer.Bp.{Bp}
use Rattle.zio_script.specs.declared.script.Failmode.{Failmode}
use Rattle.zio_cksum.specs.Images.{Images}
use Rattle.zio_gang.specs.Attempts.{Pending, Terms, reexecutions_max}
use Rattle.zio_trace.specs.Families.{Forest}
use Rattle.zio_trace.specs.Programs.{Ends}
use Rattle.zio_trace.specs.SoundRounds.{IsSoundRound}
use Rattle.zio_trace.specs.Tasks.{AttemptedBy, One, Value}
use Rattle.zio_trace.specs.Underway.{State}
use Rattle.zio_frames.specs.Frames.{Flying, Stack}
use Rattle.zio_frames.specs.Moves.{IsEnded, handed}
use Rattle.zio_frames.specs.Slots.{Heard, Slot, left_behind_slots}
use Rattle.zio_exchange.specs.Outcomes.{IsFinishedAs, IsLeftAs, IsOutcome}
use Rattle.zio_exchange.specs.Wholes.{AreTrees, IsTreeOf}
use Rattle.zio_exchange.specs.declared.waiting.UnfinishedRequest.{UnfinishedRequest}
use Rattle.zio_exchange.specs.declared.outcome.FinishedRequest.{FinishedRequest}
use Rattle.zio_exchange.specs.declared.outcome.Outcome.{Outcome}
use Rattle.zio_exchange.specs.declared.outcome.Outcome.TheVariants.{Again, Finished as HasFinished}
use Rattle.slab.specs.Slab.{Slab}
use Rattle.zio_turns.specs.Attempting.{Course, IsAttempting, IsBetween, attempt_of, course_of, rest_of, settled_with}
use Rattle.zio_turns.specs.Engine.{IsKept}
use Rattle.zio_staged.specs.Entries.{handed_on, standing, top_at}
use Rattle.zio_turns.specs.Ledgers.{AreToldAs, Ending, IsLedger, no_books}
use Rattle.zio_staged.specs.Parts.{Nodes, ended_in}
use Rattle.zio_turns.specs.Rounds.{Before, KeepsRound, SoFar, no_op, with_tree}
use Rattle.zio_turns.specs.Slabs.{shelf_of}
use Rattle.zio_turns.specs.UnderTurns.{EndsFinished, IsGoingOn}
use Rattle.zio_turns.specs.declared.entry.TiedNode.{TiedNode}
use Rattle.zio_turns.specs.declared.grounds.Grounds.{Grounds}
use Rattle.zio_turns.specs.declared.trees.TreeEnd.{TreeEnd}
use Rattle.zio_turns.specs.declared.trees.TreeEnd.TheVariants.{Finished as RootFinished, Suspended}
use Rattle.zio_turns.specs.declared.trees.TreeState.{TreeState}
use Rattle.zio_turns.specs.declared.trees.TreeState.TheVariants.{Settled, UnderWay}

-- ---- an attempt begins

-- the attempt is under way for the tree
pub record BeginsIn {N : Type 0} (nodes : Nodes N) (t : Terms) (sizes : ℕ → ℕ) (f : Forest) (before : Before) (s : SoFar)
    (slab : Slab (TiedNode N)) (line leaves : List ℕ) (tree : ℕ) (top : Flying) (c : Course) : Type 0 where
  pub keeps : KeepsRound {N = N} nodes t sizes f before (with_tree s tree (handed_on top (attempt_of c))) slab line leaves
  pub out : IsAttempting t c (handed top.stack (attempt_of c))

-- each sound round in which this attempt of this tree comes next goes on so
abbrev pub BeginsOn : {N : Type 0} → Nodes N → Slab (TiedNode N) → List ℕ → Slab (TiedNode N) → List ℕ → ℕ → Failmode → ℕ → ℕ
    → List UnfinishedRequest → Type 0
BeginsOn {N = N} nodes slab line slab_now line_now round failmode tree attempt whole =
    (t : Terms) (sizes : ℕ → ℕ) (f : Forest) (before : Before) (s : SoFar) (leaves : List ℕ) (top : Flying) (c : Course) →
    IsSoundRound t sizes f → t.round ≡ round → t.failmode ≡ failmode →
    KeepsRound {N = N} nodes t sizes f before s slab line leaves → top_at s.tops tree ≡ Some top → IsBetween t c top.stack →
    c.attempt ≡ attempt → IsTreeOf whole c.request c.kids →
    BeginsIn {N = N} nodes t sizes f before s slab_now line_now leaves tree top c

-- ---- a tree hears

-- it heard of the course's attempt with this outcome, which is this value
pub record HasHeardOf {S : Type 0} (t : Terms) (c : Course) (outcome : Outcome S) (one : One) (st : Stack) : Type 0 where
  pub shows : IsOutcome t (attempt_of c) outcome (AttemptedBy one)
  pub ends : (v : Value) → left_behind_slots (Heard (AttemptedBy one) ∷ []) (rest_of c) ≡ Ends v → IsEnded t st v
  pub goes : (d : Course) → left_behind_slots (Heard (AttemptedBy one) ∷ []) (rest_of c) ≡ rest_of d
      → d.attempt ≡ c.attempt + 1 → d.ended ≡ c.ended ++ one.ended → IsBetween t d st
  pub ended_are : ended_in st ≡ c.ended ++ one.ended

-- an attempt can end with it
abbrev pub IsOfAttempt : {S : Type 0} → Outcome S → Type 0
IsOfAttempt (HasFinished f) = Unit {0}
IsOfAttempt (Again whole bits pointer) = Unit {0}
IsOfAttempt _ = ⊥

-- the tree's root finished, and nothing is left; or this is left, which is suspended
abbrev pub IsLeftOf : TreeEnd → One → Type 0
IsLeftOf RootFinished one = (f : FinishedRequest) × IsFinishedAs f one
IsLeftOf (Suspended whole) one = (bits : Bits) × (pointer : Option Bp) × IsLeftAs whole bits pointer one

-- the tree of this number has this value, and nothing is in flight for it
abbrev pub with_value : SoFar → ℕ → Value → SoFar
with_value s n v = record {
  trees = slice_set s.trees n (Heard v);
  tops = slice_set s.tops n None;
  entries = s.entries;
  images = s.images;
  ops = s.ops;
  books = s.books;
}

-- its next attempt is under way
pub record GoesAgain {N : Type 0} (nodes : Nodes N) (t : Terms) (sizes : ℕ → ℕ) (f : Forest) (before : Before) (s : SoFar)
    (slab : Slab (TiedNode N)) (line leaves : List ℕ) (tree : ℕ) (top : Flying) (c : Course) : Type 0 where
  pub next : Course
  pub number : next.attempt ≡ c.attempt + 1
  pub few : next.more + next.attempt ≡ reexecutions_max
  pub begins : BeginsIn {N = N} nodes t sizes f before s slab line leaves tree top next

-- it is settled, as by the definition
pub record IsSettled {N : Type 0} (nodes : Nodes N) (t : Terms) (sizes : ℕ → ℕ) (f : Forest) (before : Before) (s : SoFar)
    (slab : Slab (TiedNode N)) (line leaves : List ℕ) (tree : ℕ) (c : Course) (one : One) (end : TreeEnd) : Type 0 where
  pub left : IsLeftOf end one
  pub keeps : KeepsRound {N = N} nodes t sizes f before (with_value s tree (settled_with c one)) slab line leaves

abbrev pub AfterHearing : {N : Type 0} → Nodes N → Terms → (ℕ → ℕ) → Forest → Before → SoFar → Slab (TiedNode N) → List ℕ → List ℕ
    → ℕ → Flying → Course → One → Option TreeEnd → Type 0
AfterHearing {N = N} nodes t sizes f before s slab line leaves tree top c one None =
    GoesAgain {N = N} nodes t sizes f before s slab line leaves tree top c
AfterHearing {N = N} nodes t sizes f before s slab line leaves tree top c one (Some end) =
    IsSettled {N = N} nodes t sizes f before s slab line leaves tree c one end

-- each sound round in which the tree heard that goes on so
abbrev pub TreeGoesOn : {N S : Type 0} → Nodes N → Slab (TiedNode N) → List ℕ → Slab (TiedNode N) → List ℕ → ℕ → Failmode → ℕ → ℕ
    → Outcome S → Option TreeEnd → Type 0
TreeGoesOn {N = N} nodes slab line slab_now line_now round failmode tree attempt outcome end =
    (t : Terms) (sizes : ℕ → ℕ) (f : Forest) (before : Before) (s : SoFar) (leaves : List ℕ) (top : Flying) (c : Course) (one : One) →
    IsSoundRound t sizes f → t.round ≡ round → t.failmode ≡ failmode →
    KeepsRound {N = N} nodes t sizes f before s slab line leaves → top_at s.tops tree ≡ Some top → c.attempt ≡ attempt →
    c.more + c.attempt ≡ reexecutions_max → HasHeardOf t c outcome one top.stack →
    AfterHearing {N = N} nodes t sizes f before s slab_now line_now leaves tree top c one end

-- ---- all trees

-- what is in flight for a tree: its attempt of this number, or nothing where it is settled
abbrev pub IsInState : Terms → Option Flying → Option TreeState → Type 0
IsInState t (Some top) (Some (UnderWay attempt)) =
    (c : Course) × IsAttempting t c top.stack × (c.attempt ≡ attempt) × (c.more + c.attempt ≡ reexecutions_max)
IsInState t (Some top) (Some (Settled end)) = ⊥
IsInState t (Some top) None = ⊥
IsInState t None (Some (UnderWay attempt)) = ⊥
IsInState t None (Some (Settled end)) = Unit {0}
IsInState t None None = Unit {0}

-- each tree is so far
abbrev pub AreInStates : Terms → List (Option Flying) → List TreeState → Type 0
AreInStates t tops states = (n : ℕ) → IsInState t (top_at tops n) (slice_get states n)

-- the tree of this number has the value that its last attempt gave it, and it is settled with what that attempt came to
pub record IsSettledWith (trees : List Slot) (n : ℕ) (end : TreeEnd) : Type 0 where
  pub course : Course
  pub one : One
  pub value : slice_get trees n ≡ Some (Heard (settled_with course one))
  pub left : IsLeftOf end one

-- each tree that is settled is
abbrev pub AreSettledWith : List Slot → List TreeState → Type 0
AreSettledWith trees states = (n : ℕ) (end : TreeEnd) → slice_get states n ≡ Some (Settled end) → IsSettledWith trees n end

-- Each tree is so far, and the round is kept over what is lent; these are its terms where they say so.
pub record RunsTrees {N D : Type 0} (nodes : Nodes N) (bytes : D → ℕ) (image : D → List ℕ → Type 0) (t : Terms) (sizes : ℕ → ℕ)
    (f : Forest) (before : Before) (s : SoFar) (slab : Slab (TiedNode N)) (line : List ℕ) (g : Grounds D) (round : ℕ)
    (failmode : Failmode) (states : List TreeState) : Type 0 where
  pub sound : IsSoundRound t sizes f
  pub round_is : t.round ≡ round
  pub failmode_is : t.failmode ≡ failmode
  pub going : IsGoingOn {N = N} {D = D} nodes bytes image t sizes f before s slab line g
  pub each : AreInStates t s.tops states
  pub ends : AreSettledWith s.trees states

-- some round is
pub record RunsSome {N D : Type 0} (nodes : Nodes N) (bytes : D → ℕ) (image : D → List ℕ → Type 0) (slab : Slab (TiedNode N))
    (line : List ℕ) (g : Grounds D) (round : ℕ) (failmode : Failmode) (states : List TreeState) : Type 0 where
  pub terms : Terms
  pub sizes : ℕ → ℕ
  pub forest : Forest
  pub before : Before
  pub so_far : SoFar
  pub runs : RunsTrees {N = N} {D = D} nodes bytes image terms sizes forest before so_far slab line g round failmode states

-- it went on to this, and these requests finished meanwhile
pub record HasRun {N D : Type 0} (nodes : Nodes N) (bytes : D → ℕ) (image : D → List ℕ → Type 0) (t : Terms) (sizes : ℕ → ℕ)
    (f : Forest) (before : Before) (s : SoFar) (slab : Slab (TiedNode N)) (line : List ℕ) (g : Grounds D) (round : ℕ)
    (failmode : Failmode) (states : List TreeState) (ended ended_now : List FinishedRequest) : Type 0 where
  pub now : SoFar
  pub runs : RunsTrees {N = N} {D = D} nodes bytes image t sizes f before now slab line g round failmode states
  pub more : List Choice
  pub entries_are : now.entries ≡ s.entries ++ more
  pub others : List FinishedRequest
  pub ended_are : ended_now ≡ ended ++ others
  pub are : AllByRecursion (EndsFinished t) others
  pub done : List Ending
  pub done_are : now.books.done ≡ s.books.done ++ done
  pub done_told : AreToldAs others done

-- No node is left, and no tree stands: the laws of a round's end say what it came to, and the books what finished and what became of
-- the places.
pub record IsOver {N : Type 0} (nodes : Nodes N) (t : Terms) (sizes : ℕ → ℕ) (f : Forest) (before : Before) (s : SoFar)
    (slab : Slab (TiedNode N)) : Type 0 where
  pub state : State
  pub kept : IsKept {N = N} nodes t sizes f before s.trees s.tops [] (shelf_of {N = N} slab) [] [] state
  pub standing_none : standing s.tops ≡ []
  pub entries_are : state.entries ≡ s.entries
  pub images_are : state.images ≡ s.images
  pub ledger : IsLedger {N = N} nodes t f s.books s.entries s.tops s.trees [] slab

-- each sound round of these terms goes on until it is over
abbrev pub RunsToEnd : {N D : Type 0} → Nodes N → (D → ℕ) → (D → List ℕ → Type 0) → Slab (TiedNode N) → List ℕ → Grounds D
    → List TreeState → List FinishedRequest → Slab (TiedNode N) → List ℕ → Grounds D → List TreeState → List FinishedRequest → ℕ → Failmode → Type 0
RunsToEnd {N = N} {D = D} nodes bytes image slab line g states ended slab_now line_now g_now states_now ended_now round failmode =
    (t : Terms) (sizes : ℕ → ℕ) (f : Forest) (before : Before) (s : SoFar) →
    RunsTrees {N = N} {D = D} nodes bytes image t sizes f before s slab line g round failmode states →
    (r : HasRun {N = N} {D = D} nodes bytes image t sizes f before s slab_now line_now g_now round failmode states_now ended ended_now)
    × IsOver {N = N} nodes t sizes f before r.now slab_now

-- how many attempts there may be still
abbrev pub attempts_left : TreeState → ℕ
attempts_left (UnderWay attempt) = 4 - attempt
attempts_left (Settled end) = 0

-- of what is suspended of a tree
abbrev pub EndIn : (List UnfinishedRequest → Type 0) → TreeEnd → Type 0
EndIn Q RootFinished = Unit {0}
EndIn Q (Suspended whole) = Q whole

abbrev pub StateIn : (List UnfinishedRequest → Type 0) → TreeState → Type 0
StateIn Q (UnderWay attempt) = Unit {0}
StateIn Q (Settled end) = EndIn Q end

-- ---- the beginning

-- nothing of this tree is done
pub record IsFreshFor (t : Terms) (top : Flying) (whole : List UnfinishedRequest) : Type 0 where
  pub request : Pending
  pub kids : Forest
  pub between : IsBetween t (course_of request kids) top.stack
  pub is : IsTreeOf whole request kids

abbrev pub FreshAt : Terms → Option Flying → List UnfinishedRequest → Type 0
FreshAt t None whole = ⊥
FreshAt t (Some top) whole = IsFreshFor t top whole

-- the first trees are so far, of those behind them nothing is done, and there are no others
pub record HaveBegun (t : Terms) (tops : List (Option Flying)) (states : List TreeState) (rest : List (List UnfinishedRequest)) : Type 0 where
  pub begun : (n : ℕ) → n < length states → IsInState t (top_at tops n) (slice_get states n)
  pub fresh : (n : ℕ) (whole : List UnfinishedRequest) → slice_get rest n ≡ Some whole → FreshAt t (top_at tops (length states + n)) whole
  pub past : (n : ℕ) → length states + length rest ≤ n → top_at tops n ≡ None

-- a round of these trees, in which nothing is done, has begun so
pub record BeginsSo {N : Type 0} (nodes : Nodes N) (t : Terms) (sizes : ℕ → ℕ) (f : Forest) (before : Before) (images : Images)
    (slab : Slab (TiedNode N)) (line : List ℕ) (states : List TreeState) (rest : List (List UnfinishedRequest)) : Type 0 where
  pub now : SoFar
  pub keeps : KeepsRound {N = N} nodes t sizes f before now slab line []
  pub entries_are : now.entries ≡ []
  pub images_are : now.images ≡ images
  pub ops_are : now.ops ≡ (λ key. no_op)
  pub books_are : now.books ≡ no_books
  pub begun : HaveBegun t now.tops states rest

-- each sound round of these trees begins so
abbrev pub TreesBegin : {N : Type 0} → Nodes N → Slab (TiedNode N) → List ℕ → ℕ → Failmode → List (List UnfinishedRequest) → List TreeState
    → List (List UnfinishedRequest) → Type 0
TreesBegin {N = N} nodes slab line round failmode wholes states rest =
    (t : Terms) (sizes : ℕ → ℕ) (f : Forest) (before : Before) (images : Images) → IsSoundRound t sizes f → t.round ≡ round →
    t.failmode ≡ failmode → IfSome before (λ b. b ≡ images) → AreTrees wholes f →
    BeginsSo {N = N} nodes t sizes f before images slab line states rest

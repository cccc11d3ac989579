-- What a stage of a node comes to, whatever the node is.
use Rattle.std.specs.List.{AllByRecursion}
use Rattle.std.specs.Prelude.{◌≡◌, ℕ, ◌+◌, ◌<◌, ◌≤◌, List, [], ◌++◌, slice_get, take, true, false, Option, Some, None, Ok, Err, IfSome, IsPermutation, IsTrue, Contains}
use Rattle.zio_types.specs.declared.error.Errno.{Errno}
use Rattle.zio_types.specs.declared.place.Place.{Place}
use Rattle.zio_types.specs.declared.place.Top.{Top}
use Rattle.zio_types.specs.declared.request.ChildKind.{ChildKind}
use Rattle.zio_types.specs.declared.request.Phase.{Phase}
use Rattle.zio_types.specs.Choices.{Choice}
use Rattle.zio_blkptr.specs.declared.pointer.Bp.{Bp}
use Rattle.zio_blkptr.specs.Pointers.{valid}
use Rattle.zio_gang.specs.Attempts.{Ended, Terms}
use Rattle.zio_vqueue.specs.declared.op.Op.{Op}
use Rattle.zio_trace.specs.Conflicts.{is_single}
use Rattle.zio_trace.specs.Footprints.{FitsTask}
use Rattle.zio_trace.specs.Leaves.{Answer, Fetch, LeafOp, Store, answer_of}
use Rattle.zio_trace.specs.Tasks.{Attempt, Leaf, Settle, Task, Value, WritePart}
use Rattle.zio_frames.specs.Answering.{IsAnswerTo}
use Rattle.zio_frames.specs.Frames.{Child, Inner, OfOuter, Stack, asking, fresh_stack, kind_of_task, needs_none}
use Rattle.zio_frames.specs.Moves.{AsksNext, Did, DoesAll, IsEnded, WillHave, handed}
use Rattle.zio_frames.specs.Running.{FitsTold}
use Rattle.zio_frames.specs.Seats.{IsSeated, asked_at}
use Rattle.zio_exchange.specs.LeafOps.{IsOpFor}
use Rattle.zio_exchange.specs.WithinParts.{IsDoneWithin, OpensWithin}
use Rattle.zio_exchange.specs.Outcomes.{AreEndedAs, IsOutcome, freed_by, freed_of, held_by, made_by, stored_in}
use Rattle.zio_exchange.specs.SpaceCalls.{SpaceCall, calls_back, calls_by}
use Rattle.zio_exchange.specs.declared.waiting.UnfinishedRequest.{UnfinishedRequest}
use Rattle.zio_exchange.specs.declared.outcome.Outcome.{Outcome}
use Rattle.zio_exchange.specs.declared.outcome.Outcome.TheVariants.{Again}
use Rattle.zio_staged.specs.Entries.{count_owing}
use Rattle.zio_staged.specs.Parts.{Nodes, ended_by, ended_in}
use Rattle.zio_staged.specs.declared.staged.Move.{Move}
use Rattle.zio_staged.specs.declared.staged.Move.TheVariants.{End, Grow, Leaf as ToLeaf, Next, Ready, Wait}

-- ---- before a stage

-- a node is so far, as an engine with these tops has it
pub record IsNow {N : Type 0} (nodes : Nodes N) (tops : List Top) (t : Terms) (node : N) (st : Stack) : Type 0 where
  pub tops_are : t.setting.tops ≡ tops
  pub is : nodes.Is t node st
  pub seated : IsSeated st

-- ---- who does what it asks

-- what it hands to a child: another request of its tree, or a part
abbrev pub IsHandedOut : Task → Type 0
IsHandedOut (Attempt attempt p kids) = Unit {0}
IsHandedOut (Settle p kids) = Unit {0}
IsHandedOut (WritePart attempt p sum copies levels path bytes) = Unit {0}
IsHandedOut _ = ⊥

-- a child sits there, or sat there
abbrev pub IsChildsSeat : List Child → ℕ → Type 0
IsChildsSeat children n = (k : ℕ) × (c : Child) × (slice_get children k ≡ Some c) × (c.seat ≡ OfOuter n)

-- Of an attempt or of a part that is written, a child does each request and each part that is asked. And what is done within is none
-- of these.
pub record AreHandedOut (st : Stack) : Type 0 where
  pub by_child : IsHandedOut st.outer.op → (n : ℕ) (op : Task) → slice_get st.outer.asked n ≡ Some op → IsHandedOut op
      → IsChildsSeat st.children n
  pub within : (i : Inner) → st.inner ≡ Some i → IsDoneWithin i.frame.op

-- ---- what it gives back

-- the places of the block that a request frees
abbrev pub may_free : Task → List Place
may_free (Attempt attempt p kids) = freed_of p.request.work p.block
may_free _ = []

-- it holds these places, or they are of the block that it frees
abbrev pub AreItsOwn : List Place → Stack → Type 0
AreItsOwn places st = AllByRecursion (Contains (held_by st ++ may_free st.outer.op)) places

-- ---- its moves

-- it did some of its part itself, made these calls of the space for that, and gave these places back
pub record GoesOn {N : Type 0} (nodes : Nodes N) (gave : N → List Place) (t : Terms) (node : N) (st : Stack)
    (calls : List SpaceCall) (after : N) : Type 0 where
  pub dids : List Did
  pub gone : List Place
  pub stack : Stack
  pub does : DoesAll t dids st stack
  pub opens : AllByRecursion OpensWithin dids
  pub calls_are : calls ≡ calls_by dids ++ calls_back gone
  pub is : nodes.Is t after stack
  pub told : nodes.told after ≡ nodes.told node
  pub gave_more : gave after ≡ gave node ++ gone

-- it is as far as before
pub record Stays {N : Type 0} (nodes : Nodes N) (gave : N → List Place) (t : Terms) (node : N) (st : Stack)
    (calls : List SpaceCall) (after : N) : Type 0 where
  pub is : nodes.Is t after st
  pub told : nodes.told after ≡ nodes.told node
  pub gave_same : gave after ≡ gave node
  pub no_calls : calls ≡ []

-- it stays, and a child of the kind owes the phase
pub record Waits {N : Type 0} (nodes : Nodes N) (gave : N → List Place) (t : Terms) (node : N) (st : Stack)
    (calls : List SpaceCall) (after : N) (kind : ChildKind) (phase : Phase) : Type 0 where
  pub stays : Stays {N = N} nodes gave t node st calls after
  pub owing : 0 < count_owing kind phase st.children

-- it did some of its part itself, and what is asked next then is handed to a child, of which nothing is done
pub record Grows {N : Type 0} (nodes : Nodes N) (gave : N → List Place) (t : Terms) (node : N) (st : Stack)
    (calls : List SpaceCall) (after child : N) (kind : ChildKind) : Type 0 where
  pub dids : List Did
  pub stack : Stack
  pub does : DoesAll t dids st stack
  pub opens : AllByRecursion OpensWithin dids
  pub calls_are : calls ≡ calls_by dids
  pub op : Task
  pub part : is_single (asking stack).op ≡ false
  pub asks : AsksNext t (asking stack) op
  pub is : nodes.Is t after (handed stack op)
  pub told : nodes.told after ≡ nodes.told node
  pub gave_same : gave after ≡ gave node
  pub child_is : nodes.Is t child (fresh_stack op)
  pub child_told : needs_none (kind_of_task op) ≡ false → nodes.told child ≡ false
  pub child_gave : gave child ≡ []
  pub of_kind : kind ≡ kind_of_task op

-- it is an operation on this leaf, as the leaf's queue takes it
pub record GoesToLeaf {N : Type 0} (nodes : Nodes N) (gave : N → List Place) (t : Terms) (node : N) (st : Stack)
    (calls : List SpaceCall) (after : N) (op : Op) (leaf : ℕ) (bytes : List ℕ) : Type 0 where
  pub act : LeafOp
  pub fresh : st ≡ fresh_stack (Leaf act)
  pub is_op : IsOpFor act op leaf bytes
  pub stays : Stays {N = N} nodes gave t node st calls after

-- its value will have this pointer, and it counts as one that told
pub record Tells {N : Type 0} (nodes : Nodes N) (gave : N → List Place) (t : Terms) (node : N) (st : Stack)
    (calls : List SpaceCall) (after : N) (pointer : Option Bp) : Type 0 where
  pub will : WillHave t st.outer pointer
  pub needs : needs_none (kind_of_task st.outer.op) ≡ false
  pub before : nodes.told node ≡ false
  pub is : nodes.Is t after st
  pub told : nodes.told after ≡ true
  pub gave_same : gave after ≡ gave node
  pub no_calls : calls ≡ []

-- It ended with this, and gave these places back. Each place that its part came to, or that it freed, it gave back before or
-- now, or it is in what it ends with.
pub record Ends {N S : Type 0} (nodes : Nodes N) (gave : N → List Place) (t : Terms) (node : N) (st : Stack)
    (calls : List SpaceCall) (outcome : Outcome S) : Type 0 where
  pub value : Value
  pub gone : List Place
  pub ended : List Ended
  pub ends : IsEnded t st value
  pub told : needs_none (kind_of_task st.outer.op) ≡ false → nodes.told node ≡ true
  pub shows : IsOutcome t st.outer.op outcome value
  pub requests : ended_by value ≡ ended_in st ++ ended
  pub requests_are : AreEndedAs outcome ended
  pub calls_are : calls ≡ calls_back gone
  pub places : IsPermutation (held_by st ++ freed_by st.outer.op outcome) (gave node ++ gone ++ made_by outcome ++ stored_in value)

abbrev pub IsMove : {N S : Type 0} → Nodes N → (N → List Place) → Terms → N → Stack → List SpaceCall → Move N S → Type 0
IsMove {N = N} nodes gave t node st calls (Next after) = GoesOn {N = N} nodes gave t node st calls after
IsMove {N = N} nodes gave t node st calls (Wait after kind phase) = Waits {N = N} nodes gave t node st calls after kind phase
IsMove {N = N} nodes gave t node st calls (Grow after child kind) = Grows {N = N} nodes gave t node st calls after child kind
IsMove {N = N} nodes gave t node st calls (ToLeaf after op leaf bytes) = GoesToLeaf {N = N} nodes gave t node st calls after op leaf bytes
IsMove {N = N} nodes gave t node st calls (Ready after pointer) = Tells {N = N} nodes gave t node st calls after pointer
IsMove {N = N} nodes gave t node st calls (End outcome) = Ends {N = N} nodes gave t node st calls outcome

-- ---- what holds of each node

-- of a tree that goes again
abbrev pub OutcomeIn : {S : Type 0} → (List UnfinishedRequest → Type 0) → Outcome S → Type 0
OutcomeIn Q (Again whole bits pointer) = Q whole
OutcomeIn Q _ = Unit {0}

-- of the nodes that the move hands out, and of a tree that goes again
abbrev pub EachIn : {N S : Type 0} → (N → Type 0) → (List UnfinishedRequest → Type 0) → Move N S → Type 0
EachIn P Q (Next after) = P after
EachIn P Q (Wait after kind phase) = P after
EachIn P Q (Grow after child kind) = P after × P child
EachIn P Q (ToLeaf after op leaf bytes) = P after
EachIn P Q (Ready after pointer) = P after
EachIn P Q (End outcome) = OutcomeIn Q outcome

-- a pointer that is told is valid, and each node that the move hands out may run, but one that is with its leaf
abbrev pub MayGoOn : {N S : Type 0} → (N → Type 0) → Move N S → Type 0
MayGoOn due (Next after) = due after
MayGoOn due (Wait after kind phase) = due after
MayGoOn due (Grow after child kind) = due after × due child
MayGoOn due (ToLeaf after op leaf bytes) = Unit {0}
MayGoOn due (Ready after pointer) = due after × IfSome pointer (λ bp. IsTrue (valid bp))
MayGoOn due (End outcome) = Unit {0}

-- ---- how often it runs

-- how much a node's bound may rise by what it hears
abbrev pub heard_max : ℕ
heard_max = 4

-- what is told and what ends makes up for what is heard
abbrev pub told_cost : ℕ
told_cost = 6

-- the nodes that the move hands out run less often
abbrev pub Lessens : {N S : Type 0} → (N → ℕ) → N → Move N S → Type 0
Lessens left node (Next after) = left after < left node
Lessens left node (Wait after kind phase) = left after ≤ left node
Lessens left node (Grow after child kind) = left after + left child < left node
Lessens left node (ToLeaf after op leaf bytes) = left after < left node
Lessens left node (Ready after pointer) = left after + told_cost ≤ left node
Lessens left node (End outcome) = told_cost ≤ left node

-- ---- what it hears

-- The child of this number, whose operation this is, ended with this value, which it can have, which is of the operation's kind,
-- and which has the pointer that it told.
pub record Hears {N S : Type 0} (nodes : Nodes N) (tops : List Top) (t : Terms) (node : N) (st : Stack) (n : ℕ) (c : Child) (op : Task)
    (outcome : Outcome S) (v : Value) : Type 0 where
  pub now : IsNow {N = N} nodes tops t node st
  pub there : slice_get st.children n ≡ Some c
  pub goes : c.ended ≡ false
  pub told : c.told ≡ true
  pub asked : asked_at st c.seat ≡ Some op
  pub fits_told : FitsTold st c v
  pub fits : (journal : List Choice) → FitsTask journal t op v
  pub in_kind : IsAnswerTo op v
  pub shows : IsOutcome t op outcome v

pub record HearsSome {N S : Type 0} (nodes : Nodes N) (tops : List Top) (node : N) (n : ℕ) (outcome : Outcome S) : Type 0 where
  pub terms : Terms
  pub stack : Stack
  pub child : Child
  pub op : Task
  pub value : Value
  pub hears : Hears {N = N} nodes tops terms node stack n child op outcome value

-- What a leaf answers is the answer to its operation: of a read the first bytes of those that its place has, of a write none.
abbrev pub ShowsAnswer : LeafOp → Option Errno → List ℕ → Answer → Type 0
ShowsAnswer (Fetch retry len spot) None bytes a = a ≡ Ok (take len bytes)
ShowsAnswer (Fetch retry len spot) (Some e) bytes a = a ≡ Err e
ShowsAnswer (Store retry stored spot) error bytes a = a ≡ answer_of error

-- the child of this number hasn't told its pointer yet
pub record HearsEarly {N : Type 0} (nodes : Nodes N) (t : Terms) (node : N) (st : Stack) (n : ℕ) (c : Child) : Type 0 where
  pub is : nodes.Is t node st
  pub seated : IsSeated st
  pub there : slice_get st.children n ≡ Some c
  pub goes : c.ended ≡ false
  pub untold : c.told ≡ false

pub record HearsSomeEarly {N : Type 0} (nodes : Nodes N) (node : N) (n : ℕ) : Type 0 where
  pub terms : Terms
  pub stack : Stack
  pub child : Child
  pub hears : HearsEarly {N = N} nodes terms node stack n child

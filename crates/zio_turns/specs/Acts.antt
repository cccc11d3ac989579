-- What an engine does with its slab and its queue, whatever round it keeps.
use Rattle.std.specs.Prelude.{◌≡◌, ℕ, ◌+◌, ◌<◌, ◌≤◌, List, [], ◌∷◌, ◌++◌, cond, Option, Some, None, is_some}
use Rattle.zio_types.specs.declared.error.Errno.{Errno}
use Rattle.zio_types.specs.declared.place.Top.{Top}
use Rattle.zio_types.specs.declared.request.Bits.{Bits}
use Rattle.zio_types.specs.declared.request.ChildKind.{ChildKind}
use Rattle.zio_types.specs.declared.request.Phase.{Phase}
use Rattle.zio_types.specs.declared.request.Phase.TheVariants.{Done, Ready}
use Rattle.zio_types.specs.Machine.{fresh}
use Rattle.zio_blkptr.specs.declared.pointer.Bp.{Bp}
use Rattle.zio_counts.specs.Tallies.{Tally, count_end, counted, first_counted, is_last, notified, raised, stalled, tally_of}
use Rattle.zio_gang.specs.Attempts.{Terms}
use Rattle.zio_trace.specs.Tasks.{Task, Value}
use Rattle.zio_frames.specs.Frames.{Child, Stack}
use Rattle.zio_frames.specs.Moves.{heard_early, heard_of}
use Rattle.zio_exchange.specs.declared.waiting.UnfinishedRequest.{UnfinishedRequest}
use Rattle.zio_exchange.specs.declared.outcome.FinishedRequest.{FinishedRequest}
use Rattle.zio_exchange.specs.declared.outcome.Outcome.{Outcome}
use Rattle.zio_exchange.specs.declared.outcome.Outcome.TheVariants.{Finished as HasFinished}
use Rattle.slab.specs.Slab.{Slab, Updates, get}
use Rattle.zio_staged.specs.Parts.{Nodes}
use Rattle.zio_staged.specs.Stages.{Hears, HearsEarly, HearsSome, HearsSomeEarly, OutcomeIn, heard_max}
use Rattle.zio_turns.specs.declared.entry.TiedNode.{TiedNode}
use Rattle.zio_turns.specs.declared.entry.Parent.{Parent as Above}
use Rattle.zio_turns.specs.declared.entry.Parent.TheVariants.{Tree, Node}
use Rattle.zio_turns.specs.declared.entry.Ties.{Ties}
use Rattle.zio_turns.specs.declared.step.Step.{Step}
use Rattle.zio_turns.specs.declared.step.Step.TheVariants.{Ended, Goes, Leaf as ToLeaf, Rests, Root, Told}

-- ---- ties

abbrev pub counting : Ties → Tally → Ties
counting ties tally = record { kind = ties.kind; parent = ties.parent; counts = tally; children = ties.children }

-- of a node that handed out nothing yet
abbrev pub new_ties : ChildKind → Above → Ties
new_ties kind parent = record { kind = kind; parent = parent; counts = tally_of fresh; children = 0 }

-- one child more of the kind was handed out
abbrev pub one_more : ChildKind → Ties → Ties
one_more kind ties = record { kind = ties.kind; parent = ties.parent; counts = raised kind ties.counts; children = ties.children + 1 }

abbrev pub with_ties : {N : Type 0} → N → Ties → TiedNode N
with_ties node ties = record { node = node; ties = ties }

-- ---- it waits, or hands out a child

-- a node's ties stall on the count, and its key isn't queued exactly where they do
pub record AreStalled (ties : Ties) (line : List ℕ) (ties_now : Ties) (line_now : List ℕ) (key : ℕ) (kind : ChildKind) (phase : Phase) : Type 0 where
  pub ties_are : ties_now ≡ counting ties (stalled (first_counted (kind ∷ []) phase ties.counts) ties.counts)
  pub queued : line_now ≡ cond (is_some (first_counted (kind ∷ []) phase ties.counts)) line (line ++ key ∷ [])

-- the child of the node under the key, with this number, has a key of its own, and both are queued, the child first
pub record HasAdded {N : Type 0} (slab : Slab (TiedNode N)) (line : List ℕ) (slab_now : Slab (TiedNode N)) (line_now : List ℕ) (key number : ℕ)
    (child : N) (kind : ChildKind) : Type 0 where
  pub at : ℕ
  pub free : get slab at ≡ None
  pub added : Updates slab slab_now at (Some (with_ties {N = N} child (new_ties kind (Node key number))))
  pub queued : line_now ≡ (line ++ at ∷ []) ++ key ∷ []

-- the key isn't queued exactly where it stalls on a count
pub record HasWaited {N : Type 0} (slab : Slab (TiedNode N)) (line : List ℕ) (slab_now : Slab (TiedNode N)) (line_now : List ℕ) (key : ℕ)
    (e : TiedNode N) (kind : ChildKind) (phase : Phase) : Type 0 where
  pub put : Updates slab slab_now key
      (Some (with_ties {N = N} e.node (counting e.ties (stalled (first_counted (kind ∷ []) phase e.ties.counts) e.ties.counts))))
  pub queued : line_now ≡ cond (is_some (first_counted (kind ∷ []) phase e.ties.counts)) line (line ++ key ∷ [])

-- the child has a key of its own, and both are queued, the child first
pub record HasGrown {N : Type 0} (slab : Slab (TiedNode N)) (line : List ℕ) (slab_now : Slab (TiedNode N)) (line_now : List ℕ) (key : ℕ)
    (e : TiedNode N) (child : N) (kind : ChildKind) : Type 0 where
  pub mid : Slab (TiedNode N)
  pub at : ℕ
  pub room : counted kind Done e.ties.counts < count_end
  pub put : Updates slab mid key (Some (with_ties {N = N} e.node (one_more kind e.ties)))
  pub free : get mid at ≡ None
  pub added : Updates mid slab_now at (Some (with_ties {N = N} child (new_ties kind (Node key e.ties.children))))
  pub queued : line_now ≡ (line ++ at ∷ []) ++ key ∷ []

-- ---- a parent hears

-- a node is held there which can hear that its child of this number tells a pointer, or is ended with this
pub record AwaitsReady {N : Type 0} (nodes : Nodes N) (slab : Slab (TiedNode N)) (kind : ChildKind) (key child : ℕ) : Type 0 where
  pub entry : TiedNode N
  pub there : get slab key ≡ Some entry
  pub hears : HearsSomeEarly {N = N} nodes entry.node child
  pub owed : 0 < counted kind Ready entry.ties.counts

pub record AwaitsEnd {N S : Type 0} (nodes : Nodes N) (over : List Top → N → Type 0) (tops : List Top) (slab : Slab (TiedNode N))
    (kind : ChildKind) (key child : ℕ) (outcome : Outcome S) : Type 0 where
  pub entry : TiedNode N
  pub there : get slab key ≡ Some entry
  pub inside : over tops entry.node
  pub hears : HearsSome {N = N} nodes tops entry.node child outcome
  pub owed : 0 < counted kind Done entry.ties.counts

abbrev pub CanTell : {N : Type 0} → Nodes N → Slab (TiedNode N) → ChildKind → Above → Type 0
CanTell nodes slab kind (Tree tree child) = Unit {0}
CanTell {N = N} nodes slab kind (Node key child) = AwaitsReady {N = N} nodes slab kind key child

abbrev pub CanEnd : {N S : Type 0} → Nodes N → (List Top → N → Type 0) → List Top → Slab (TiedNode N) → ChildKind → Above → Outcome S → Type 0
CanEnd nodes over tops slab kind (Tree tree child) outcome = Unit {0}
CanEnd {N = N} nodes over tops slab kind (Node key child) outcome = AwaitsEnd {N = N} nodes over tops slab kind key child outcome

-- a node's ties have one child's mark in their counts, and its key is queued exactly where it waited for this alone
pub record AreCounted (ties : Ties) (line : List ℕ) (ties_now : Ties) (line_now : List ℕ) (key : ℕ) (kind : ChildKind) (phase : Phase)
    (error : Option Errno) (bits : Bits) : Type 0 where
  pub ties_are : ties_now ≡ counting ties (notified kind phase error bits ties.counts)
  pub queued : line_now ≡ cond (is_last kind phase ties.counts) (line ++ key ∷ []) line

-- the node there is this one now, and its key is queued exactly where it waited for this alone
pub record HasHeard {N : Type 0} (nodes : Nodes N) (slab : Slab (TiedNode N)) (line : List ℕ) (slab_now : Slab (TiedNode N))
    (line_now : List ℕ) (kind : ChildKind) (phase : Phase) (error : Option Errno) (bits : Bits)
    (key : ℕ) (was : TiedNode N) (up : N) : Type 0 where
  pub there : get slab key ≡ Some was
  pub put : Updates slab slab_now key (Some (with_ties {N = N} up (counting was.ties (notified kind phase error bits was.ties.counts))))
  pub queued : line_now ≡ cond (is_last kind phase was.ties.counts) (line ++ key ∷ []) line
  pub told : nodes.told up ≡ nodes.told was.node
  pub left : nodes.left up ≤ nodes.left was.node + heard_max
  pub gave : nodes.gave up ≡ nodes.gave was.node
  pub due : nodes.due was.node → nodes.due up

-- its parent heard which pointer its value will have
pub record NodeTold {N : Type 0} (nodes : Nodes N) (over : List Top → N → Type 0) (slab : Slab (TiedNode N)) (line : List ℕ)
    (slab_now : Slab (TiedNode N)) (line_now : List ℕ) (kind : ChildKind) (key child : ℕ) (pointer : Option Bp) : Type 0 where
  pub was : TiedNode N
  pub up : N
  pub error : Option Errno
  pub bits : Bits
  pub heard : HasHeard {N = N} nodes slab line slab_now line_now kind Ready error bits key was up
  pub is : (t : Terms) (st : Stack) (c : Child) → HearsEarly {N = N} nodes t was.node st child c →
      nodes.Is t up (heard_early st child c pointer)
  pub over_still : (tops : List Top) → over tops was.node → over tops up

-- its parent heard with what it ended
pub record NodeHeard {N S : Type 0} (nodes : Nodes N) (over : List Top → N → Type 0) (tops : List Top) (slab : Slab (TiedNode N))
    (line : List ℕ) (slab_now : Slab (TiedNode N)) (line_now : List ℕ) (kind : ChildKind) (key child : ℕ)
    (outcome : Outcome S) : Type 0 where
  pub was : TiedNode N
  pub up : N
  pub error : Option Errno
  pub bits : Bits
  pub heard : HasHeard {N = N} nodes slab line slab_now line_now kind Done error bits key was up
  pub is : (t : Terms) (st : Stack) (c : Child) (op : Task) (v : Value) →
      Hears {N = N} nodes tops t was.node st child c op outcome v → nodes.Is t up (heard_of st child c v)
  pub inside : over tops up

-- nothing changed
pub record IsSame {N : Type 0} (slab : Slab (TiedNode N)) (line : List ℕ) (slab_now : Slab (TiedNode N)) (line_now : List ℕ) : Type 0 where
  pub slab_same : slab_now ≡ slab
  pub line_same : line_now ≡ line

abbrev pub HasTold : {N : Type 0} → Nodes N → (List Top → N → Type 0) → Slab (TiedNode N) → List ℕ → Slab (TiedNode N) → List ℕ → ChildKind
    → Above → Option Bp → Type 0
HasTold {N = N} nodes over slab line slab_now line_now kind (Tree tree child) pointer = IsSame {N = N} slab line slab_now line_now
HasTold {N = N} nodes over slab line slab_now line_now kind (Node key child) pointer =
    NodeTold {N = N} nodes over slab line slab_now line_now kind key child pointer

abbrev pub step_told : {S : Type 0} → Above → Step S
step_told (Tree tree child) = Told tree
step_told (Node key child) = Goes

-- a key counts once more while its turn goes on, and twice more at a leaf
abbrev pub load_of : {S : Type 0} → Step S → ℕ
load_of Goes = 1
load_of (Told tree) = 1
load_of Rests = 0
load_of (ToLeaf op leaf bytes) = 2
load_of (Ended finished) = 0
load_of (Root tree outcome) = 0

-- of a tree that goes again, of which a tree of the round hears
abbrev pub StepIn : {S : Type 0} → (List UnfinishedRequest → Type 0) → Step S → Type 0
StepIn Q (Root tree outcome) = OutcomeIn Q outcome
StepIn Q _ = Unit {0}

-- a request that finished is handed on, and nothing else
abbrev pub IsHandedOn : {S : Type 0} → Outcome S → Option FinishedRequest → Type 0
IsHandedOn (HasFinished f) finished = finished ≡ Some f
IsHandedOn _ finished = finished ≡ None

abbrev pub HasEnded : {N S : Type 0} → Nodes N → (List Top → N → Type 0) → List Top → Slab (TiedNode N) → List ℕ → Slab (TiedNode N) → List ℕ
    → ChildKind → Above → Outcome S → Step S → Type 0
HasEnded {N = N} nodes over tops slab line slab_now line_now kind (Tree tree child) outcome step =
    IsSame {N = N} slab line slab_now line_now × (step ≡ Root tree outcome)
HasEnded {N = N} nodes over tops slab line slab_now line_now kind (Node key child) outcome step =
    NodeHeard {N = N} nodes over tops slab line slab_now line_now kind key child outcome
    × ((finished : Option FinishedRequest) × (step ≡ Ended finished) × IsHandedOn outcome finished)

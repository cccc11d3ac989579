-- A round that an engine's values keep, and what its calls leave of it.
use Rattle.std.specs.Prelude.{◌≡◌, ℕ, ◌<◌, List, [], ◌∷◌, ◌++◌, length, slice_get, slice_set, Bool, false, cond, Option, Some, Contains, IfSome}
use Rattle.zio_types.specs.declared.error.Errno.{Errno}
use Rattle.zio_types.specs.declared.place.Place.{Place}
use Rattle.zio_types.specs.declared.place.Top.{Top}
use Rattle.zio_types.specs.declared.request.ChildKind.TheVariants.{Logical}
use Rattle.zio_types.specs.Choices.{Choice}
use Rattle.zio_cksum.specs.Images.{Images}
use Rattle.zio_gang.specs.Attempts.{Ended, Terms}
use Rattle.zio_gang.specs.Journals.{AreLawful}
use Rattle.zio_gang.specs.Trees.{sizes_of}
use Rattle.zio_trace.specs.Families.{Forest}
use Rattle.zio_trace.specs.Entries.{AnswersOnLeaf}
use Rattle.zio_trace.specs.Labels.{same_number}
use Rattle.zio_trace.specs.Leaves.{Answer, Fetch, LeafOp, LiesOn, spot_of}
use Rattle.zio_trace.specs.Conflicts.{is_single}
use Rattle.zio_trace.specs.Rounds.{settles}
use Rattle.zio_trace.specs.SoundRounds.{HasClaim, IsSoundRound}
use Rattle.zio_trace.specs.Tasks.{Leaf, Task, Value}
use Rattle.zio_frames.specs.Frames.{Child, Flying, Stack, asking, fresh_stack, kind_of_task}
use Rattle.zio_frames.specs.Moves.{AsksNext, IsEnded, heard_early, heard_of}
use Rattle.zio_frames.specs.Running.{FitsTold, all_out, settling_from}
use Rattle.zio_frames.specs.Seats.{asked_at}
use Rattle.zio_frames.specs.Slots.{Slot}
use Rattle.zio_blkptr.specs.declared.pointer.Bp.{Bp}
use Rattle.zio_exchange.specs.LeafOps.{IsOpFor}
use Rattle.zio_exchange.specs.Outcomes.{AreEndedAs, IsOutcome}
use Rattle.zio_exchange.specs.SpaceCalls.{Claimed, SpaceCall}
use Rattle.zio_exchange.specs.declared.outcome.FinishedRequest.{FinishedRequest}
use Rattle.zio_exchange.specs.declared.outcome.Outcome.{Outcome}
use Rattle.zio_exchange.specs.declared.outcome.Outcome.TheVariants.{Finished as HasFinished}
use Rattle.slab.specs.Slab.{Slab}
pub use Rattle.zio_turns.specs.Desks.{AreRight, choices_in}
use Rattle.zio_turns.specs.Desks.{MayAsk, backs_in, claims_in}
use Rattle.zio_turns.specs.Engine.{StillKept}
use Rattle.zio_staged.specs.Entries.{Live, OneMore, all_tops, flying_at, handed_on, times_in, top_at}
use Rattle.zio_turns.specs.Acts.{IsHandedOn}
use Rattle.zio_turns.specs.Ledgers.{AreToldAs, Books, Ending, IsLedger, no_books}
use Rattle.zio_staged.specs.Parts.{Nodes, ended_by, ended_in}
use Rattle.zio_turns.specs.ShortTops.{EndsWithTops}
use Rattle.zio_turns.specs.Sizes.{HasAskedSize}
use Rattle.zio_turns.specs.Slabs.{AreAll, AreNumbered, shelf_of}
use Rattle.zio_staged.specs.Stages.{ShowsAnswer}
use Rattle.zio_turns.specs.declared.entry.TiedNode.{TiedNode}
use Rattle.zio_turns.specs.declared.step.Step.{Step}
use Rattle.zio_turns.specs.declared.step.Step.TheVariants.{Ended as HasEnded, Goes, Leaf as ToLeaf, Rests, Root, Told}

-- ---- the round

-- the images before it, where they are told
abbrev pub Before : Type 0
Before = Option Images

-- A round so far: how far its trees are settled, what is in flight for each, the entries made, the images, of each key at a leaf its
-- operation there, and the books.
pub record SoFar : Type 0 where
  pub trees : List Slot
  pub tops : List (Option Flying)
  pub entries : List Choice
  pub images : Images
  pub ops : ℕ → LeafOp
  pub books : Books

-- these calls of the space were made
abbrev pub with_calls : SoFar → List SpaceCall → SoFar
with_calls s calls = record {
  trees = s.trees;
  tops = s.tops;
  entries = s.entries ++ choices_in calls;
  images = s.images;
  ops = s.ops;
  books = record { done = s.books.done; claimed = s.books.claimed ++ claims_in calls; back = s.books.back ++ backs_in calls };
}

abbrev pub with_images : SoFar → Images → SoFar
with_images s images =
    record { trees = s.trees; tops = s.tops; entries = s.entries; images = images; ops = s.ops; books = s.books }

abbrev pub with_tree : SoFar → ℕ → Flying → SoFar
with_tree s n top = record {
  trees = s.trees;
  tops = slice_set s.tops n (Some top);
  entries = s.entries;
  images = s.images;
  ops = s.ops;
  books = s.books;
}

-- these requests finished
abbrev pub with_done : SoFar → List Ending → SoFar
with_done s more = record {
  trees = s.trees;
  tops = s.tops;
  entries = s.entries;
  images = s.images;
  ops = s.ops;
  books = record { done = s.books.done ++ more; claimed = s.books.claimed; back = s.books.back };
}

-- this is the key's operation at its leaf
abbrev pub op_set : (ℕ → LeafOp) → ℕ → LeafOp → ℕ → LeafOp
op_set ops key op k = cond (same_number key k) op (ops k)

abbrev pub with_op : SoFar → ℕ → LeafOp → SoFar
with_op s key op = record {
  trees = s.trees;
  tops = s.tops;
  entries = s.entries;
  images = s.images;
  ops = op_set s.ops key op;
  books = s.books;
}

-- of a key that is at no leaf
abbrev pub no_op : LeafOp
no_op = Fetch false 0 (record { leaf = 0; at = 0; span = 0 })

-- nothing is done
abbrev pub first_of : Forest → Images → SoFar
first_of f images = record {
  trees = all_out (settles f);
  tops = all_tops (settling_from 0 (settles f));
  entries = [];
  images = images;
  ops = λ key. no_op;
  books = no_books;
}

-- what is in flight under a key at a leaf does its operation there
abbrev pub DoTheirs : (ℕ → Option Flying) → List ℕ → (ℕ → LeafOp) → Type 0
DoTheirs lives leaves ops = (key : ℕ) (x : Flying) → lives key ≡ Some x → 0 < times_in key leaves →
    x.stack ≡ fresh_stack (Leaf (ops key))

-- the round is so far, with these nodes, of which these keys are queued and these at the leaves
pub record KeepsRound {N : Type 0} (nodes : Nodes N) (t : Terms) (sizes : ℕ → ℕ) (f : Forest) (before : Before) (s : SoFar)
    (slab : Slab (TiedNode N)) (queue leaves : List ℕ) : Type 0 where
  pub lives : List Live
  pub still : StillKept {N = N} nodes t sizes f before s.trees s.tops lives (shelf_of {N = N} slab) queue leaves s.entries s.images
  pub numbered : AreNumbered {N = N} slab (flying_at lives)
  pub theirs : DoTheirs (flying_at lives) leaves s.ops
  pub ledger : IsLedger {N = N} nodes t f s.books s.entries s.tops s.trees lives slab

-- a sound round over these tops is kept
pub record KeepsSome {N : Type 0} (nodes : Nodes N) (tops : List Top) (slab : Slab (TiedNode N)) (queue leaves : List ℕ) : Type 0 where
  pub terms : Terms
  pub sizes : ℕ → ℕ
  pub forest : Forest
  pub before : Before
  pub so_far : SoFar
  pub sound : IsSoundRound terms sizes forest
  pub tops_are : terms.setting.tops ≡ tops
  pub keeps : KeepsRound {N = N} nodes terms sizes forest before so_far slab queue leaves

-- it is this key's turn, and each node has what it names inside the tops
pub record IsTurn {N : Type 0} (nodes : Nodes N) (over : List Top → N → Type 0) (tops : List Top) (slab : Slab (TiedNode N))
    (line : List ℕ) (key : ℕ) : Type 0 where
  pub leaves : List ℕ
  pub keeps : KeepsSome {N = N} nodes tops slab (key ∷ line) leaves
  pub over_all : AreAll {N = N} (over tops) slab

-- the key is at a leaf
pub record IsAtLeaf {N : Type 0} (nodes : Nodes N) (slab : Slab (TiedNode N)) (line : List ℕ) (key : ℕ) : Type 0 where
  pub tops : List Top
  pub leaves : List ℕ
  pub others : List ℕ
  pub there : OneMore key others leaves
  pub keeps : KeepsSome {N = N} nodes tops slab line leaves

-- ---- calls of the space

-- where such calls claim places, the round is that of a claim, and no entry was made in it before
abbrev pub ClaimsAlone : {N : Type 0} → Nodes N → List Top → List SpaceCall → Slab (TiedNode N) → List ℕ → ℕ → Type 0
ClaimsAlone {N = N} nodes tops calls slab line key =
    (t : Terms) (sizes : ℕ → ℕ) (f : Forest) (before : Before) (s : SoFar) (leaves : List ℕ) → IsSoundRound t sizes f →
    t.setting.tops ≡ tops → KeepsRound {N = N} nodes t sizes f before s slab (key ∷ line) leaves →
    AreLawful (sizes_of t.setting.tops) t.used (s.entries ++ choices_in calls) → (places : List Place) (free : Bool) →
    Contains calls (Claimed places free) → HasClaim f × (s.entries ≡ [])

-- such calls may be asked of the space of each round that is kept, with what was asked of it before
abbrev pub AsksRightly : {N : Type 0} → Nodes N → List Top → List SpaceCall → Slab (TiedNode N) → List ℕ → ℕ → Type 0
AsksRightly {N = N} nodes tops calls slab line key =
    (t : Terms) (sizes : ℕ → ℕ) (f : Forest) (before : Before) (s : SoFar) (leaves : List ℕ) → IsSoundRound t sizes f →
    t.setting.tops ≡ tops → KeepsRound {N = N} nodes t sizes f before s slab (key ∷ line) leaves →
    MayAsk s.entries s.books.claimed calls

-- ---- what a stage leaves

-- its operation goes to a leaf, is on some of it, and ends with the tops
pub record GoesOut {N : Type 0} (nodes : Nodes N) (t : Terms) (sizes : ℕ → ℕ) (f : Forest) (before : Before) (s : SoFar)
    (slab : Slab (TiedNode N)) (line leaves : List ℕ) (key : ℕ) (act : LeafOp) : Type 0 where
  pub lies : LiesOn sizes act
  pub spans : 0 < (spot_of act).span
  pub ends : EndsWithTops t.setting.tops (spot_of act)
  pub keeps : (leaves_now : List ℕ) → OneMore key leaves leaves_now →
      KeepsRound {N = N} nodes t sizes f before (with_op s key act) slab line leaves_now

-- the nth child of what is in flight for a tree told a pointer, and it goes on
pub record TreeHearsEarly {N : Type 0} (nodes : Nodes N) (t : Terms) (sizes : ℕ → ℕ) (f : Forest) (before : Before) (s : SoFar)
    (slab : Slab (TiedNode N)) (queue leaves : List ℕ) (tree : ℕ) : Type 0 where
  pub top : Flying
  pub number : ℕ
  pub child : Child
  pub pointer : Option Bp
  pub there : top_at s.tops tree ≡ Some top
  pub is : slice_get top.stack.children number ≡ Some child
  pub goes : child.ended ≡ false
  pub untold : child.told ≡ false
  pub keeps : KeepsRound {N = N} nodes t sizes f before
      (with_tree s tree (record { at = top.at; stack = heard_early top.stack number child pointer })) slab queue leaves

-- A node that does this operation ended with this value, which has the requests below it that it heard of; where it is a request
-- that finished, this is one more, and the definitions tell the same of it.
pub record EndsAs {S : Type 0} (t : Terms) (op : Task) (outcome : Outcome S) (value : Value) : Type 0 where
  pub stack : Stack
  pub does : stack.outer.op ≡ op
  pub ends : IsEnded t stack value
  pub shows : IsOutcome t op outcome value
  pub ended : List Ended
  pub requests : ended_by value ≡ ended_in stack ++ ended
  pub requests_are : AreEndedAs outcome ended

-- the request that finished, if one did
abbrev pub finished_in : {S : Type 0} → Outcome S → List FinishedRequest
finished_in (HasFinished f) = f ∷ []
finished_in _ = []

-- a node ended, its parent heard of it, and this is the request that finished by that, if one did; it is in the books
pub record NodeEnds {N : Type 0} (S : Type 0) (nodes : Nodes N) (t : Terms) (sizes : ℕ → ℕ) (f : Forest) (before : Before) (s : SoFar)
    (slab : Slab (TiedNode N)) (line leaves : List ℕ) (finished : Option FinishedRequest) : Type 0 where
  pub op : Task
  pub outcome : Outcome S
  pub value : Value
  pub how : EndsAs t op outcome value
  pub handed : IsHandedOn outcome finished
  pub more : List Ending
  pub told : AreToldAs (finished_in outcome) more
  pub keeps : KeepsRound {N = N} nodes t sizes f before (with_done s more) slab line leaves

-- The nth child of what is in flight for a tree ended with this outcome, which is this value of its operation, and the tree has
-- it. Where it is a request that finished, it is in the books.
pub record TreeHears {N S : Type 0} (nodes : Nodes N) (t : Terms) (sizes : ℕ → ℕ) (f : Forest) (before : Before) (s : SoFar)
    (slab : Slab (TiedNode N)) (line leaves : List ℕ) (tree : ℕ) (outcome : Outcome S) : Type 0 where
  pub top : Flying
  pub number : ℕ
  pub child : Child
  pub op : Task
  pub value : Value
  pub there : top_at s.tops tree ≡ Some top
  pub is : slice_get top.stack.children number ≡ Some child
  pub goes : child.ended ≡ false
  pub asked : asked_at top.stack child.seat ≡ Some op
  pub fits : FitsTold top.stack child value
  pub how : EndsAs t op outcome value
  pub more : List Ending
  pub told : AreToldAs (finished_in outcome) more
  pub keeps : KeepsRound {N = N} nodes t sizes f before
      (with_done (with_tree s tree (record { at = top.at; stack = heard_of top.stack number child value })) more) slab line leaves

-- with these calls made the round goes on so
abbrev pub AfterStep : {N S : Type 0} → Nodes N → Terms → (ℕ → ℕ) → Forest → Before → SoFar → Slab (TiedNode N) → List ℕ → List ℕ → ℕ
    → Step S → Type 0
AfterStep {N = N} nodes t sizes f before s slab line leaves key Goes =
    KeepsRound {N = N} nodes t sizes f before s slab (key ∷ line) leaves
AfterStep {N = N} nodes t sizes f before s slab line leaves key (Told tree) =
    TreeHearsEarly {N = N} nodes t sizes f before s slab (key ∷ line) leaves tree
AfterStep {N = N} nodes t sizes f before s slab line leaves key Rests =
    KeepsRound {N = N} nodes t sizes f before s slab line leaves
AfterStep {N = N} nodes t sizes f before s slab line leaves key (ToLeaf op leaf bytes) =
    (act : LeafOp) × IsOpFor act op leaf bytes × GoesOut {N = N} nodes t sizes f before s slab line leaves key act
AfterStep {N = N} {S = S} nodes t sizes f before s slab line leaves key (HasEnded finished) =
    NodeEnds {N = N} S nodes t sizes f before s slab line leaves finished
AfterStep {N = N} nodes t sizes f before s slab line leaves key (Root tree outcome) =
    TreeHears {N = N} nodes t sizes f before s slab line leaves tree outcome

-- each round over these tops whose queue the key came first in goes on so, where the calls made are right for it
abbrev pub StepsOn : {N S : Type 0} → Nodes N → List Top → List SpaceCall → Slab (TiedNode N) → List ℕ → Slab (TiedNode N) → List ℕ → ℕ
    → Step S → Type 0
StepsOn {N = N} nodes tops calls slab line slab_now line_now key step =
    (t : Terms) (sizes : ℕ → ℕ) (f : Forest) (before : Before) (s : SoFar) (leaves : List ℕ) → IsSoundRound t sizes f →
    t.setting.tops ≡ tops → AreRight t s.entries calls → KeepsRound {N = N} nodes t sizes f before s slab (key ∷ line) leaves →
    AfterStep {N = N} nodes t sizes f before (with_calls s calls) slab_now line_now leaves key step

-- ---- what an answer leaves

-- each round in which the key is at a leaf goes on with each answer to its operation that is shown, and has the size asked for
abbrev pub ComesBack : {N : Type 0} → Nodes N → Slab (TiedNode N) → List ℕ → Slab (TiedNode N) → List ℕ → ℕ → Option Errno → List ℕ
    → Type 0
ComesBack {N = N} nodes slab line slab_now line_now key error bytes =
    (t : Terms) (sizes : ℕ → ℕ) (f : Forest) (before : Before) (s : SoFar) (leaves others : List ℕ) → IsSoundRound t sizes f →
    OneMore key others leaves → KeepsRound {N = N} nodes t sizes f before s slab line leaves → (a : Answer) (after : Images) →
    ShowsAnswer (s.ops key) error bytes a → HasAskedSize (s.ops key) a → AnswersOnLeaf t before (s.ops key) s.images a after →
    KeepsRound {N = N} nodes t sizes f before (with_images s after) slab_now line_now others

-- ---- the beginning, and whose turn it is

abbrev pub Begins : {N : Type 0} → Nodes N → Slab (TiedNode N) → List ℕ → Type 0
Begins {N = N} nodes slab line = (t : Terms) (sizes : ℕ → ℕ) (f : Forest) (before : Before) (images : Images) →
    IsSoundRound t sizes f → IfSome before (λ b. b ≡ images) →
    KeepsRound {N = N} nodes t sizes f before (first_of f images) slab line []

-- The tree of this number may hand out an operation to its next child, which has this number, and the node does it: then it has.
abbrev pub HandsOut : {N : Type 0} → Nodes N → Slab (TiedNode N) → List ℕ → Slab (TiedNode N) → List ℕ → ℕ → ℕ → N → Type 0
HandsOut {N = N} nodes slab line slab_now line_now tree child node =
    (t : Terms) (sizes : ℕ → ℕ) (f : Forest) (before : Before) (s : SoFar) (leaves : List ℕ) (top : Flying) (op : Task) →
    IsSoundRound t sizes f → KeepsRound {N = N} nodes t sizes f before s slab line leaves → top_at s.tops tree ≡ Some top →
    is_single (asking top.stack).op ≡ false → AsksNext t (asking top.stack) op → kind_of_task op ≡ Logical →
    nodes.Is t node (fresh_stack op) → nodes.told node ≡ false → nodes.gave node ≡ [] → nodes.due node →
    child ≡ length top.stack.children →
    KeepsRound {N = N} nodes t sizes f before (with_tree s tree (handed_on top op)) slab_now line_now leaves

-- the round goes on with the key in front
abbrev pub HasTurn : {N : Type 0} → Nodes N → Slab (TiedNode N) → List ℕ → Slab (TiedNode N) → List ℕ → ℕ → Type 0
HasTurn {N = N} nodes slab line slab_now line_now key =
    (t : Terms) (sizes : ℕ → ℕ) (f : Forest) (before : Before) (s : SoFar) (leaves : List ℕ) →
    KeepsRound {N = N} nodes t sizes f before s slab line leaves → KeepsRound {N = N} nodes t sizes f before s slab_now (key ∷ line_now) leaves

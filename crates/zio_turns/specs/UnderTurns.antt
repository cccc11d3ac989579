-- What the one-thread engine keeps from turn to turn: the round with its nodes, and what it lends to them.
use Rattle.std.specs.Prelude.{◌≡◌, ℕ, ◌+◌, ◌*◌, ◌≤◌, List, [], ◌∷◌, ◌++◌, length, map, slice_get, slice_index_or, slice_set, false, Option, Some, None}
use Rattle.std.specs.List.{AllByRecursion}
use Rattle.zio_types.specs.declared.place.Place.{Place}
use Rattle.zio_types.specs.declared.place.Top.{Top}
use Rattle.zio_types.specs.Choices.{Choice}
use Rattle.zio_blkptr.specs.declared.pointer.Bp.{Bp}
use Rattle.zio_cksum.specs.Images.{Images}
use Rattle.zio_disks.specs.Disks.{Tell}
use Rattle.zio_gang.specs.Attempts.{Terms}
use Rattle.zio_trace.specs.Entries.{AnswersOnLeaf}
use Rattle.zio_trace.specs.Families.{Forest}
use Rattle.zio_trace.specs.Leaves.{Answer, LeafOp}
use Rattle.zio_trace.specs.SoundRounds.{IsSoundRound}
use Rattle.zio_trace.specs.Tasks.{Task, Value}
use Rattle.zio_frames.specs.Frames.{Child, Flying}
use Rattle.zio_frames.specs.Moves.{heard_early, heard_of}
use Rattle.zio_frames.specs.Running.{FitsTold}
use Rattle.zio_frames.specs.Seats.{asked_at}
use Rattle.zio_groups.specs.declared.waiting.Answered.{Answered}
use Rattle.zio_exchange.specs.declared.waiting.UnfinishedRequest.{UnfinishedRequest}
use Rattle.zio_exchange.specs.declared.outcome.FinishedRequest.{FinishedRequest}
use Rattle.zio_exchange.specs.declared.outcome.Outcome.{Outcome}
use Rattle.zio_exchange.specs.declared.outcome.Outcome.TheVariants.{Finished as HasFinished}
use Rattle.slab.specs.Slab.{Slab}
use Rattle.zio_turns.specs.AtLeaves.{AllWait, WaitsFor, key_of, keys_at}
use Rattle.zio_turns.specs.Desks.{IsDeskAt}
use Rattle.zio_staged.specs.Entries.{top_at}
use Rattle.zio_turns.specs.Grounds.{AreReady}
use Rattle.zio_turns.specs.Ledgers.{AreToldAs, Ending}
use Rattle.zio_staged.specs.Parts.{Nodes}
use Rattle.zio_turns.specs.Rounds.{Before, EndsAs, KeepsRound, KeepsSome, SoFar, finished_in, with_done, with_images, with_tree}
use Rattle.zio_turns.specs.ShortTops.{AreShort}
use Rattle.zio_turns.specs.Sizes.{HasAskedSize}
use Rattle.zio_turns.specs.Slabs.{load}
use Rattle.zio_staged.specs.Stages.{OutcomeIn, ShowsAnswer}
use Rattle.zio_turns.specs.declared.entry.TiedNode.{TiedNode}
use Rattle.zio_turns.specs.declared.grounds.Grounds.{Grounds}
use Rattle.zio_turns.specs.declared.hearing.Hearing.{Hearing}
use Rattle.zio_turns.specs.declared.turn.Turned.{Turned}
use Rattle.zio_turns.specs.declared.turn.Turned.TheVariants.{Nothing, Ended as HasEnded, Root}

-- ---- what is lent

-- the disks tell the images now, where those before are told
abbrev pub TellNow : {D : Type 0} → (D → List ℕ → Type 0) → Before → List D → Images → Type 0
TellNow image None disks images = Unit {0}
TellNow image (Some before) disks images = Tell image disks images

-- no leaf is larger than its disk
abbrev pub FitDisks : (ℕ → ℕ) → List ℕ → Type 0
FitDisks sizes disks = (leaf : ℕ) → sizes leaf ≤ slice_index_or disks leaf 0

-- What is lent is the round's: its space, with these entries, and with these places claimed and given back; at the leaves the
-- operations of the round, by their keys; and the disks, which tell these images.
pub record AreLent {D : Type 0} (bytes : D → ℕ) (image : D → List ℕ → Type 0) (t : Terms) (sizes : ℕ → ℕ) (before : Before)
    (entries : List Choice) (claimed back : List Place) (images : Images) (ops : ℕ → LeafOp) (g : Grounds D) : Type 0 where
  pub setting_is : t.setting ≡ g.setting
  pub desk : IsDeskAt t entries claimed back g.desk.tops g.desk.space
  pub waits : AllWait (λ leaf w. WaitsFor leaf (ops (key_of w)) w) g.queues.leaves.items
  pub ready : AreReady g.setting.rows (map bytes g.disks.items) g.queues.leaves.items
  pub fit : FitDisks sizes (map bytes g.disks.items)
  pub short : AreShort t.setting.tops
  pub each : length g.queues.leaves.items ≡ length g.disks.items
  pub tell : TellNow {D = D} image before g.disks.items images

-- the round is kept over what is lent
pub record IsGoingOn {N D : Type 0} (nodes : Nodes N) (bytes : D → ℕ) (image : D → List ℕ → Type 0) (t : Terms) (sizes : ℕ → ℕ)
    (f : Forest) (before : Before) (s : SoFar) (slab : Slab (TiedNode N)) (line : List ℕ) (g : Grounds D) : Type 0 where
  pub keeps : KeepsRound {N = N} nodes t sizes f before s slab line (keys_at g.queues.leaves.items)
  pub lent : AreLent {D = D} bytes image t sizes before s.entries s.books.claimed s.books.back s.images s.ops g

-- a sound round is
pub record GoesOnSome {N D : Type 0} (nodes : Nodes N) (bytes : D → ℕ) (image : D → List ℕ → Type 0) (slab : Slab (TiedNode N))
    (line : List ℕ) (g : Grounds D) : Type 0 where
  pub terms : Terms
  pub sizes : ℕ → ℕ
  pub forest : Forest
  pub before : Before
  pub so_far : SoFar
  pub sound : IsSoundRound terms sizes forest
  pub going : IsGoingOn {N = N} {D = D} nodes bytes image terms sizes forest before so_far slab line g

-- what is to run still, where an operation at a leaf counts as two turns
abbrev pub work_left : {N D : Type 0} → (N → ℕ) → Slab (TiedNode N) → List ℕ → Grounds D → ℕ
work_left {N = N} left slab line g = load {N = N} left slab line + 2 * length (keys_at g.queues.leaves.items)

-- the disks, the tops and the setting are the same
pub record AreSameGrounds {D : Type 0} (g now : Grounds D) : Type 0 where
  pub setting_same : now.setting ≡ g.setting
  pub disks_same : now.disks.items ≡ g.disks.items
  pub tops_same : now.desk.tops ≡ g.desk.tops

-- ---- what a turn leaves

-- a child of what is in flight for a tree told a pointer
pub record Telling : Type 0 where
  pub tree : ℕ
  pub top : Flying
  pub number : ℕ
  pub child : Child
  pub pointer : Option Bp

abbrev pub with_telling : Telling → List (Option Flying) → List (Option Flying)
with_telling x tops =
    slice_set tops x.tree (Some (record { at = x.top.at; stack = heard_early x.top.stack x.number x.child x.pointer }))

-- it goes on, and hadn't told before
pub record IsTelling (x : Telling) (tops : List (Option Flying)) : Type 0 where
  pub there : top_at tops x.tree ≡ Some x.top
  pub is : slice_get x.top.stack.children x.number ≡ Some x.child
  pub goes : x.child.ended ≡ false
  pub untold : x.child.told ≡ false

-- one after another
abbrev pub AreTold : List Telling → List (Option Flying) → List (Option Flying) → Type 0
AreTold [] tops now = now ≡ tops
AreTold (x ∷ xs) tops now = IsTelling x tops × AreTold xs (with_telling x tops) now

-- Entries came behind the others, these requests finished, and what is in flight for the trees told pointers, and did nothing else.
pub record HasGoneOn (s now : SoFar) (finished : List FinishedRequest) : Type 0 where
  pub tellings : List Telling
  pub told : AreTold tellings s.tops now.tops
  pub more : List Choice
  pub entries_are : now.entries ≡ s.entries ++ more
  pub trees_are : now.trees ≡ s.trees
  pub done : List Ending
  pub done_are : now.books.done ≡ s.books.done ++ done
  pub done_told : AreToldAs finished done

-- the round went on to this, and these requests finished
pub record HasTurned {N D : Type 0} (nodes : Nodes N) (bytes : D → ℕ) (image : D → List ℕ → Type 0) (t : Terms) (sizes : ℕ → ℕ)
    (f : Forest) (before : Before) (s : SoFar) (finished : List FinishedRequest) (slab : Slab (TiedNode N)) (line : List ℕ)
    (g : Grounds D) : Type 0 where
  pub now : SoFar
  pub gone : HasGoneOn s now finished
  pub going : IsGoingOn {N = N} {D = D} nodes bytes image t sizes f before now slab line g

-- a node ended as a request that finished, under whichever seal
pub record EndsFinished (t : Terms) (finished : FinishedRequest) : Type 0 where
  pub op : Task
  pub value : Value
  pub how : EndsAs {S = Unit {0}} t op (HasFinished finished) value

-- The round went on to this, where the tree of this number has with what its nth child ended: this value of its operation. Before these
-- requests finished, and with that the child, where it did.
pub record HasEndedFor {N D S : Type 0} (nodes : Nodes N) (bytes : D → ℕ) (image : D → List ℕ → Type 0) (t : Terms) (sizes : ℕ → ℕ)
    (f : Forest) (before : Before) (s : SoFar) (finished : List FinishedRequest) (slab : Slab (TiedNode N)) (line : List ℕ) (g : Grounds D)
    (tree : ℕ) (outcome : Outcome S) : Type 0 where
  pub now : SoFar
  pub gone : HasGoneOn s now finished
  pub top : Flying
  pub number : ℕ
  pub child : Child
  pub op : Task
  pub value : Value
  pub there : top_at now.tops tree ≡ Some top
  pub is : slice_get top.stack.children number ≡ Some child
  pub goes : child.ended ≡ false
  pub asked : asked_at top.stack child.seat ≡ Some op
  pub fits : FitsTold top.stack child value
  pub how : EndsAs t op outcome value
  pub more : List Ending
  pub told : AreToldAs (finished_in outcome) more
  pub going : IsGoingOn {N = N} {D = D} nodes bytes image t sizes f before
      (with_done (with_tree now tree (record { at = top.at; stack = heard_of top.stack number child value })) more) slab line g

abbrev pub AfterTurn : {N D S : Type 0} → Nodes N → (D → ℕ) → (D → List ℕ → Type 0) → Terms → (ℕ → ℕ) → Forest → Before → SoFar
    → Slab (TiedNode N) → List ℕ → Grounds D → Turned S → Type 0
AfterTurn {N = N} {D = D} nodes bytes image t sizes f before s slab line g Nothing =
    HasTurned {N = N} {D = D} nodes bytes image t sizes f before s [] slab line g
AfterTurn {N = N} {D = D} nodes bytes image t sizes f before s slab line g (HasEnded finished) =
    EndsFinished t finished × HasTurned {N = N} {D = D} nodes bytes image t sizes f before s (finished ∷ []) slab line g
AfterTurn {N = N} {D = D} nodes bytes image t sizes f before s slab line g (Root tree outcome) =
    HasEndedFor {N = N} {D = D} nodes bytes image t sizes f before s [] slab line g tree outcome

-- of a tree that goes again
abbrev pub TurnedIn : {S : Type 0} → (List UnfinishedRequest → Type 0) → Turned S → Type 0
TurnedIn Q (Root tree outcome) = OutcomeIn Q outcome
TurnedIn Q _ = Unit {0}

-- each sound round whose queue the key came first in goes on so
abbrev pub TurnsOn : {N D S : Type 0} → Nodes N → (D → ℕ) → (D → List ℕ → Type 0) → Slab (TiedNode N) → List ℕ → Grounds D
    → Slab (TiedNode N) → List ℕ → Grounds D → ℕ → Turned S → Type 0
TurnsOn {N = N} {D = D} nodes bytes image slab line g slab_now line_now g_now key turned =
    (t : Terms) (sizes : ℕ → ℕ) (f : Forest) (before : Before) (s : SoFar) → IsSoundRound t sizes f →
    IsGoingOn {N = N} {D = D} nodes bytes image t sizes f before s slab (key ∷ line) g →
    AfterTurn {N = N} {D = D} nodes bytes image t sizes f before s slab_now line_now g_now turned

-- ---- what a group leaves

-- The leaves' answers to the operations of these keys, one after another from the images to those left: where images are told as
-- the operations give, and where none are told whatever came; each of the size that was asked for.
abbrev pub GiveAnswers : Terms → Before → (ℕ → LeafOp) → List Answered → Images → Images → Type 0
GiveAnswers t before ops [] images left = left ≡ images
GiveAnswers t before ops (b ∷ bs) images left = (a : Answer) × (mid : Images) × ShowsAnswer (ops b.ticket) b.error b.bytes a
    × HasAskedSize (ops b.ticket) a × AnswersOnLeaf t before (ops b.ticket) images a mid × GiveAnswers t before ops bs mid left

abbrev pub keys_answered : List Answered → List ℕ
keys_answered bs = map (λ (b : Answered). b.ticket) bs

-- the keys answered are at leaves, beside others, and the answers are what the leaves may have given
pub record AreAtLeaves {N : Type 0} (nodes : Nodes N) (slab : Slab (TiedNode N)) (line : List ℕ) (answers : List Answered) : Type 0 where
  pub tops : List Top
  pub others : List ℕ
  pub keeps : KeepsSome {N = N} nodes tops slab line (keys_answered answers ++ others)
  pub left : Images
  pub gives : GiveAnswers keeps.terms keeps.before keeps.so_far.ops answers keeps.so_far.images left

-- each round in which the keys are at leaves goes on with what the leaves answered
abbrev pub ComeBack : {N : Type 0} → Nodes N → Slab (TiedNode N) → List ℕ → Slab (TiedNode N) → List ℕ → List Answered → Type 0
ComeBack {N = N} nodes slab line slab_now line_now answers =
    (t : Terms) (sizes : ℕ → ℕ) (f : Forest) (before : Before) (s : SoFar) (others : List ℕ) → IsSoundRound t sizes f →
    KeepsRound {N = N} nodes t sizes f before s slab line (keys_answered answers ++ others) → (left : Images) →
    GiveAnswers t before s.ops answers s.images left →
    KeepsRound {N = N} nodes t sizes f before (with_images s left) slab_now line_now others

-- each sound round goes on, with the images as they are now
abbrev pub IssuesOn : {N D : Type 0} → Nodes N → (D → ℕ) → (D → List ℕ → Type 0) → Slab (TiedNode N) → List ℕ → Grounds D
    → Slab (TiedNode N) → List ℕ → Grounds D → Type 0
IssuesOn {N = N} {D = D} nodes bytes image slab line g slab_now line_now g_now =
    (t : Terms) (sizes : ℕ → ℕ) (f : Forest) (before : Before) (s : SoFar) → IsSoundRound t sizes f →
    IsGoingOn {N = N} {D = D} nodes bytes image t sizes f before s slab line g →
    (left : Images) × IsGoingOn {N = N} {D = D} nodes bytes image t sizes f before (with_images s left) slab_now line_now g_now

-- ---- what turns and groups leave, whichever were picked

-- each sound round goes on so
abbrev pub RunsOn : {N D S : Type 0} → Nodes N → (D → ℕ) → (D → List ℕ → Type 0) → Slab (TiedNode N) → List ℕ → Grounds D
    → Slab (TiedNode N) → List ℕ → Grounds D → Turned S → Type 0
RunsOn {N = N} {D = D} nodes bytes image slab line g slab_now line_now g_now turned =
    (t : Terms) (sizes : ℕ → ℕ) (f : Forest) (before : Before) (s : SoFar) → IsSoundRound t sizes f →
    IsGoingOn {N = N} {D = D} nodes bytes image t sizes f before s slab line g →
    AfterTurn {N = N} {D = D} nodes bytes image t sizes f before s slab_now line_now g_now turned

-- where there is nothing to tell no key is queued, and none is at a leaf
abbrev pub IsDone : {S : Type 0} → List ℕ → List ℕ → Turned S → Type 0
IsDone line leaves Nothing = (line ≡ []) × (leaves ≡ [])
IsDone line leaves _ = Unit {0}

-- each sound round goes on until a tree hears, or there is nothing to do, and these requests finished meanwhile
abbrev pub AfterRun : {N D S : Type 0} → Nodes N → (D → ℕ) → (D → List ℕ → Type 0) → Terms → (ℕ → ℕ) → Forest → Before → SoFar
    → List FinishedRequest → Slab (TiedNode N) → List ℕ → Grounds D → Option (Hearing S) → Type 0
AfterRun {N = N} {D = D} nodes bytes image t sizes f before s finished slab line g None =
    HasTurned {N = N} {D = D} nodes bytes image t sizes f before s finished slab line g
AfterRun {N = N} {D = D} nodes bytes image t sizes f before s finished slab line g (Some heard) =
    HasEndedFor {N = N} {D = D} nodes bytes image t sizes f before s finished slab line g heard.tree heard.outcome

abbrev pub RunsToTree : {N D S : Type 0} → Nodes N → (D → ℕ) → (D → List ℕ → Type 0) → Slab (TiedNode N) → List ℕ → Grounds D
    → List FinishedRequest → Slab (TiedNode N) → List ℕ → Grounds D → List FinishedRequest → Option (Hearing S) → Type 0
RunsToTree {N = N} {D = D} nodes bytes image slab line g ended slab_now line_now g_now ended_now heard =
    (t : Terms) (sizes : ℕ → ℕ) (f : Forest) (before : Before) (s : SoFar) → IsSoundRound t sizes f →
    IsGoingOn {N = N} {D = D} nodes bytes image t sizes f before s slab line g →
    (more : List FinishedRequest) × (ended_now ≡ ended ++ more) × AllByRecursion (EndsFinished t) more
    × AfterRun {N = N} {D = D} nodes bytes image t sizes f before s more slab_now line_now g_now heard

-- where no tree hears no key is queued, and none is at a leaf
abbrev pub IsDoneUnless : {S : Type 0} → List ℕ → List ℕ → Option (Hearing S) → Type 0
IsDoneUnless line leaves None = (line ≡ []) × (leaves ≡ [])
IsDoneUnless line leaves (Some heard) = Unit {0}

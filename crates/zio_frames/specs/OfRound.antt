-- The parts that belong to a round's work, and what is known of their values.
use Rattle.std.specs.Prelude.{◌≡◌, ℕ, List, [], ◌∷◌, Bool, true, false, Option, Some, None, Contains}
use Rattle.zio_types.specs.declared.place.Place.{Place}
use Rattle.zio_types.specs.Choices.{Ask, Choice}
use Rattle.zio_blkptr.specs.declared.pointer.Bp.{Bp}
use Rattle.zio_gang.specs.declared.tree.Tree.{Tree}
use Rattle.zio_gang.specs.Attempts.{Pending, Terms}
use Rattle.zio_gang.specs.Trees.{sizes_of}
use Rattle.zio_gang.specs.Writes.{chosen}
use Rattle.zio_trace.specs.BlockCopies.{Copies, copies_from, copies_of, groups_of}
use Rattle.zio_trace.specs.Calls.{FitsEarly}
use Rattle.zio_trace.specs.Entries.{MayCome}
use Rattle.zio_trace.specs.Families.{Forest, NoTrees, TreeOf, flat}
use Rattle.zio_trace.specs.Footprints.{AreFrom, FitsTask}
use Rattle.zio_trace.specs.Keys.{FitsLeft, NumbersOnce}
use Rattle.zio_trace.specs.Plans.{TaskPlan, plan}
use Rattle.zio_trace.specs.Programs.{Asks, Ends}
use Rattle.zio_trace.specs.SoundRounds.{IsBlockIn, IsWrite}
use Rattle.zio_trace.specs.Tasks.{Attempt, ByClaim, ByKept, Find, Look, ReadCopies, ReadHeads, ReadTree, Settle, Task, Value, WriteCopies, WritePart}
use Rattle.zio_trace.specs.Underway.{early}
use Rattle.zio_frames.specs.Answering.{IsAnswerTo}
use Rattle.zio_frames.specs.Frames.{Frame, Inner, Stack}
use Rattle.zio_frames.specs.Slots.{Heard, IsOut, Slot}

-- a lawful journal of the round that begins with these entries
abbrev pub MayStill : Terms → List Choice → List Choice → Type 0
MayStill t entries journal = MayCome (sizes_of t.setting.tops) t.used entries journal

-- a tree of the round's requests, none of which stands twice
pub record IsTreeOf (f : Forest) (p : Pending) (kids : Forest) : Type 0 where
  pub from : AreFrom (flat f) (p ∷ flat kids)
  pub once : NumbersOnce (TreeOf p kids NoTrees)

pub record IsWriteOf (f : Forest) (p : Pending) : Type 0 where
  pub from : AreFrom (flat f) (p ∷ [])
  pub write : IsWrite p.request.work

-- the headers from there down are the block's
abbrev pub AreHeadsOf : Tree → ℕ → List ℕ → Bp → Type 0
AreHeadsOf tree levels path bp = (c : Copies) → Contains (copies_from levels tree.heads path bp).heads c → Contains (groups_of tree).heads c

abbrev pub IsLookOf : Forest → Look → ℕ → List ℕ → Bp → Type 0
IsLookOf f (ByKept heads) levels path bp = (tree : Tree) × IsBlockIn f tree × (heads ≡ tree.heads) × AreHeadsOf tree levels path bp
IsLookOf f ByClaim levels path bp = Unit {0}

-- a piece of a block of the round
abbrev pub IsPieceOf : Forest → Bool → Copies → Type 0
IsPieceOf f true c = (tree : Tree) × IsBlockIn f tree × Contains (copies_of tree) c
IsPieceOf f false c = Unit {0}

-- the places that each journal that may come has for one ask of the round
pub record AreChosen (t : Terms) (entries : List Choice) (places : List Place) : Type 0 where
  pub by : Ask
  pub now : by.key.round ≡ t.round
  pub is : (journal : List Choice) → MayStill t entries journal → chosen journal by ≡ Some places

abbrev pub IsTaskOf : Terms → Forest → List Choice → Task → Type 0
IsTaskOf t f entries (Settle p kids) = IsTreeOf f p kids
IsTaskOf t f entries (Attempt attempt p kids) = IsTreeOf f p kids
IsTaskOf t f entries (WritePart attempt p sum copies levels path bytes) = IsWriteOf f p
IsTaskOf t f entries (ReadHeads look levels path bp) = IsLookOf f look levels path bp
IsTaskOf t f entries (ReadTree tree) = IsBlockIn f tree
IsTaskOf t f entries (ReadCopies repair test len places) = IsPieceOf f repair (record { test = test; len = len; places = places })
IsTaskOf t f entries (WriteCopies bytes places) = AreChosen t entries places
IsTaskOf t f entries _ = Unit {0}

-- ---- values

-- only what is asked of the space has its answer by the journal
abbrev pub MayAnswer : Terms → List Choice → Task → List Choice → Type 0
MayAnswer t entries (Find a) journal = MayStill t entries journal
MayAnswer t entries _ journal = Unit {0}

-- a value that the task can have, whichever journal comes
pub record FitsWhichever (t : Terms) (entries : List Choice) (op : Task) (v : Value) : Type 0 where
  pub fits : (journal : List Choice) → MayAnswer t entries op journal → FitsTask journal t op v
  pub left : FitsLeft op v
  pub kind : IsAnswerTo op v

abbrev pub SlotFits : Terms → List Choice → Task → Slot → Type 0
SlotFits t entries op (Heard v) = FitsWhichever t entries op v
SlotFits t entries op (IsOut told) = Unit {0}

abbrev pub SlotsFit : Terms → List Choice → List Task → List Slot → Type 0
SlotsFit t entries [] slots = Unit {0}
SlotsFit t entries (op ∷ asked) [] = Unit {0}
SlotsFit t entries (op ∷ asked) (slot ∷ slots) = SlotFits t entries op slot × SlotsFit t entries asked slots

-- ---- parts and nodes

-- The plan asks these, one after another: each behind those that have their answers, whatever of their kind those are
-- answered that are out.
abbrev pub AreAsked : {A : Type 0} → List Task → List Slot → TaskPlan A → Type 0
AreAsked [] slots p = Unit {0}
AreAsked (q ∷ asked) [] p = Unit {0}
AreAsked (q ∷ asked) (slot ∷ slots) (Ends a) = ⊥
AreAsked (q ∷ asked) (Heard v ∷ slots) (Asks next more) = (q ≡ next) × AreAsked asked slots (more v)
AreAsked (q ∷ asked) (IsOut told ∷ slots) (Asks next more) =
    (q ≡ next) × ((v : Value) → IsAnswerTo next v → FitsEarly early told v → AreAsked asked slots (more v))

pub record IsFrameOf (t : Terms) (f : Forest) (entries : List Choice) (x : Frame) : Type 0 where
  pub task : IsTaskOf t f entries x.op
  pub slots : SlotsFit t entries x.asked x.slots
  pub asked : AreAsked x.asked x.slots (plan t x.op)

abbrev pub IsInnerOf : Terms → Forest → List Choice → Option Inner → Type 0
IsInnerOf t f entries None = Unit {0}
IsInnerOf t f entries (Some i) = IsFrameOf t f entries i.frame

pub record IsOfRound (t : Terms) (f : Forest) (entries : List Choice) (st : Stack) : Type 0 where
  pub outer : IsFrameOf t f entries st.outer
  pub inner : IsInnerOf t f entries st.inner

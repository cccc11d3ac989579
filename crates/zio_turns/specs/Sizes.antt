-- How many bytes operations give: a read of a leaf and of a piece's copies as many as were asked for, and the read of a block as
-- many as its bodies have together.
use Rattle.std.specs.Prelude.{◌≡◌, ℕ, ◌+◌, List, [], ◌∷◌, length, Option, Some, None, IfOk, ◌⊎◌}
use Rattle.zio_script.specs.declared.script.Work.{Work}
use Rattle.zio_script.specs.declared.script.Work.TheVariants.{Null, Read as WorkRead, Write, Free, Claim}
use Rattle.zio_gang.specs.declared.tree.Tree.{Tree}
use Rattle.zio_gang.specs.Attempts.{Ended, Pending}
use Rattle.zio_trace.specs.BlockCopies.{Copies, groups_of}
use Rattle.zio_trace.specs.Leaves.{Answer, Fetch, LeafOp, Store}
use Rattle.zio_trace.specs.Tasks.{Leaf, ReadCopies, Task, Value, got}
use Rattle.zio_frames.specs.Frames.{Inner, Stack}
use Rattle.zio_frames.specs.Slots.{Heard, IsOut, Slot}

-- ---- answers

-- without error so many bytes
abbrev pub HasSize : ℕ → Answer → Type 0
HasSize len a = IfOk a (λ bytes. length bytes ≡ len)

-- what a leaf answers: of a read as many as it asked for
abbrev pub HasAskedSize : LeafOp → Answer → Type 0
HasAskedSize (Fetch retry len spot) a = HasSize len a
HasAskedSize (Store retry bytes spot) a = Unit {0}

-- what an operation gives: a read of a leaf or of copies as many as it asked for; of others nothing is said
abbrev pub IsSizedAs : Task → Value → Type 0
IsSizedAs (Leaf act) v = HasAskedSize act (got v)
IsSizedAs (ReadCopies repair test len places) v = HasSize len (got v)
IsSizedAs _ v = Unit {0}

-- ---- a node

-- it is out, or gave so many
abbrev pub SlotSized : Task → Slot → Type 0
SlotSized op (Heard v) = IsSizedAs op v
SlotSized op (IsOut told) = Unit {0}

-- so is each that was asked
abbrev pub SlotsSized : List Task → List Slot → Type 0
SlotsSized [] slots = Unit {0}
SlotsSized (op ∷ asked) [] = Unit {0}
SlotsSized (op ∷ asked) (slot ∷ slots) = SlotSized op slot × SlotsSized asked slots

-- so are those of a part within
abbrev pub InnerSized : Option Inner → Type 0
InnerSized None = Unit {0}
InnerSized (Some i) = SlotsSized i.frame.asked i.frame.slots

-- what its own part heard has the sizes that were asked for, and what the part within did
pub record HasSizes (st : Stack) : Type 0 where
  pub outer : SlotsSized st.outer.asked st.outer.slots
  pub inner : InnerSized st.inner

-- ---- a request

-- how many bytes these pieces have together
abbrev pub joined_size : List Copies → ℕ
joined_size [] = 0
joined_size (c ∷ cs) = c.len + joined_size cs

-- how many all bodies of a block have
abbrev pub bodies_size : Tree → ℕ
bodies_size tree = joined_size (groups_of tree).bodies

-- the block that a read reads
abbrev pub block_read : Work → Option Tree → Option Tree
block_read Null block = None
block_read (WorkRead name prio) block = block
block_read (Write name sum copies prio body) block = None
block_read (Free name) block = None
block_read (Claim name pointer) block = None

-- A request finished with no bytes, or it reads a block and has as many as all its bodies; where it reads one and has no error,
-- it has these.
pub record FitsBodies (p : Pending) (e : Ended) : Type 0 where
  pub bytes : (e.bytes ≡ [])
      ⊎ ((tree : Tree) × (block_read p.request.work p.block ≡ Some tree) × (length e.bytes ≡ bodies_size tree))
  pub whole : e.error ≡ None → (tree : Tree) → block_read p.request.work p.block ≡ Some tree → length e.bytes ≡ bodies_size tree

-- Tasks: the operations of leaves and of the space, and whole parts of a request's work. Each has a meaning over some
-- images, which is the definition of that part; specs/Plans has how it is done by tasks below.
use Rattle.std.specs.Prelude.{ℕ, zero, suc, ◌+◌, List, [], ◌∷◌, ◌++◌, Bool, true, false, Option, Some, None, Err}
use Rattle.zio_types.specs.declared.error.Errno.{Errno}
use Rattle.zio_types.specs.declared.error.Errno.TheVariants.{Io, Nospc}
use Rattle.zio_types.specs.declared.place.Place.{Place}
use Rattle.zio_types.specs.Choices.{Ask, Choice}
use Rattle.zio_types.specs.Places.{are_open}
use Rattle.zio_blkptr.specs.declared.pointer.Bp.{Bp}
use Rattle.zio_blkptr.specs.declared.pointer.SumKind.{SumKind}
use Rattle.zio_cksum.specs.Blocks.{Read, read_block, write_piece, good_body, good_kept, good_claimed}
use Rattle.zio_cksum.specs.Images.{Images, Setting, Written}
use Rattle.zio_gang.specs.declared.tree.Head.{Head}
use Rattle.zio_gang.specs.declared.tree.Tree.{Tree}
use Rattle.zio_gang.specs.Attempts.{Terms, Pending, Return, Ended, Own, Settled as TreeSettled, writing_of, no_bits, now_alone, reexecutions_max}
use Rattle.zio_gang.specs.Trees.{Visit, Walk, walk, kept_visit, claim_visit, read_tree, tree_places}
use Rattle.zio_gang.specs.Writes.{Placed, chosen, place_part}
use Rattle.zio_trace.specs.Families.{Forest, NoTrees, TreeOf, Rooted, attempt_root}
use Rattle.zio_trace.specs.Leaves.{LeafOp, Answer, on_leaf}
use Rattle.zio_trace.specs.Programs.{Done}

-- when the bytes of a copy are good
pub data Test : Type 0 where
  BodyOf : Bp → Test
  KeptAs : Option (List ℕ) → Test
  ClaimedBy : Bp → Test

abbrev pub good_by : Test → List ℕ → Bool
good_by (BodyOf bp) = good_body bp
good_by (KeptAs kept) = good_kept kept
good_by (ClaimedBy bp) = good_claimed bp

-- how a walk over headers judges
pub data Look : Type 0 where
  ByKept : List Head → Look
  ByClaim : Look

abbrev pub visit_of : Setting → Look → Visit
visit_of s (ByKept heads) = kept_visit s heads
visit_of s ByClaim = claim_visit s

pub data Task : Type 0 where
  -- one operation on a leaf
  Leaf : LeafOp → Task
  -- one act of the space
  Find : Ask → Task
  -- the copies of a block or a header
  ReadCopies : (repair : Bool) (test : Test) (len : ℕ) (places : List Place) → Task
  WriteCopies : (bytes : List ℕ) (places : List Place) → Task
  -- a part of a block that is written, and may become a gang
  WritePart : (attempt : ℕ) (p : Pending) (sum : SumKind) (copies levels : ℕ) (path bytes : List ℕ) → Task
  -- the headers from a pointer down, and a whole block
  ReadHeads : (look : Look) (levels : ℕ) (path : List ℕ) (bp : Bp) → Task
  ReadTree : Tree → Task
  -- another act of the space: whether a claimed tree's places were free and are taken
  TakePlaces : Tree → Task
  -- one attempt of a tree of requests, and all attempts of a round
  Attempt : (attempt : ℕ) (p : Pending) (kids : Forest) → Task
  Settle : (p : Pending) (kids : Forest) → Task

-- a write of a part without its images and asks
pub record Stored : Type 0 where
  pub error : Option Errno
  pub pointer : Option Bp
  pub heads : List Head

pub record Walked : Type 0 where
  pub errors : List (Option Errno)
  pub bodies : List Bp
  pub heads : List Head

-- a request's own work without its images and asks
pub record OwnGot : Type 0 where
  pub error : Option Errno
  pub bytes : List ℕ
  pub tree : Option Tree
  pub pointer : Option Bp

-- what an attempt of a tree leaves, and all attempts of a round
pub record One : Type 0 where
  pub return : Return
  pub ended : List Ended
  pub again : List Pending
  pub left : Forest

pub record Settled : Type 0 where
  pub ended : List Ended
  pub again : List Pending
  pub left : Forest

pub data Value : Type 0 where
  Got : Answer → Value
  Wrote : Option Errno → Value
  Found : Option (List Place) → Value
  StoredAs : Stored → Value
  WalkedBy : Walked → Value
  Taken : Bool → Value
  AttemptedBy : One → Value
  SettledBy : Settled → Value

abbrev pub nowhere : Stored
nowhere = record { error = Some Nospc; pointer = None; heads = [] }

-- ---- what an answer is read as; an answer of another kind doesn'journal t come

abbrev pub got : Value → Answer
got (Got a) = a
got _ = Err Io

abbrev pub wrote : Value → Option Errno
wrote (Wrote e) = e
wrote _ = Some Io

abbrev pub found : Value → Option (List Place)
found (Found places) = places
found _ = None

abbrev pub stored : Value → Stored
stored (StoredAs x) = x
stored _ = nowhere

abbrev pub walked : Value → Walked
walked (WalkedBy w) = w
walked _ = record { errors = Some Io ∷ []; bodies = []; heads = [] }

abbrev pub taken : Value → Bool
taken (Taken b) = b
taken _ = false

abbrev pub no_return : Return
no_return = record { under = None; bits = no_bits; child = record { number = 0; error = None; pointer = None } }

abbrev pub attempted : Value → One
attempted (AttemptedBy x) = x
attempted _ = record { return = no_return; ended = []; again = []; left = NoTrees }

abbrev pub settled : Value → Settled
settled (SettledBy x) = x
settled _ = record { ended = []; again = []; left = NoTrees }

-- ---- what a task means

abbrev pub as_own : Own → Done OwnGot
as_own o = record { value = record { error = o.error; bytes = o.bytes; tree = o.tree; pointer = o.pointer }; asks = o.asks; images = o.images }

abbrev pub as_one : Rooted → Done Value
as_one r = record {
  value = AttemptedBy (record { return = r.return; ended = r.ended; again = r.again; left = r.left });
  asks = r.asks;
  images = r.images;
}

-- all attempts of a tree in a round
pub record AllEnded : Type 0 where
  pub value : Settled
  pub asks : List Ask
  pub images : Images

abbrev pub all_ended : Rooted → AllEnded
all_ended r = record { value = record { ended = r.ended; again = r.again; left = r.left }; asks = r.asks; images = r.images }

abbrev pub add_ended : Rooted → AllEnded → AllEnded
add_ended r later = record {
  value = record { ended = r.ended ++ later.value.ended; again = later.value.again; left = later.value.left };
  asks = r.asks ++ later.asks;
  images = later.images;
}

abbrev pub settle_left : Rooted → Forest → (Pending → Forest → Images → AllEnded) → AllEnded
settle_left r NoTrees again = all_ended r
settle_left r (TreeOf p kids others) again = add_ended r (again p kids r.images)

abbrev pub settle_if : Bool → Rooted → (Pending → Forest → Images → AllEnded) → AllEnded
settle_if true r again = settle_left r r.left again
settle_if false r again = all_ended r

abbrev pub settle_on : Rooted → (Pending → Forest → Images → AllEnded) → AllEnded
settle_on r again = settle_if (now_alone r.return.bits) r again

abbrev pub settle_root : ℕ → List Choice → Terms → ℕ → Pending → Forest → Images → AllEnded
settle_root zero journal t attempt p kids images = all_ended (attempt_root journal t attempt p kids images)
settle_root (suc more) journal t attempt p kids images = settle_on (attempt_root journal t attempt p kids images) (settle_root more journal t (attempt + 1))

abbrev pub as_settled : AllEnded → Done Value
as_settled e = record { value = SettledBy e.value; asks = e.asks; images = e.images }

abbrev pub as_stored : Placed → Done Value
as_stored p = record {
  value = StoredAs (record { error = p.error; pointer = p.pointer; heads = p.heads });
  asks = p.asks;
  images = p.images;
}

abbrev pub as_walked : Walk → Done Value
as_walked w = record {
  value = WalkedBy (record { errors = w.errors; bodies = w.bodies; heads = w.heads });
  asks = [];
  images = w.images;
}

abbrev pub as_got : Read → Done Value
as_got read = record { value = Got read.found; asks = []; images = read.images }

abbrev pub as_wrote : Written → Done Value
as_wrote w = record { value = Wrote w.error; asks = []; images = w.images }

abbrev pub as_leaf : Done Answer → Done Value
as_leaf d = record { value = Got d.value; asks = d.asks; images = d.images }

abbrev pub means : List Choice → Terms → Task → Images → Done Value
means journal t (Leaf act) images = as_leaf (on_leaf t.setting act images)
means journal t (Find a) images = record { value = Found (chosen journal a); asks = a ∷ []; images = images }
means journal t (ReadCopies repair test len places) images = as_got (read_block t.setting repair (good_by test) images len places)
means journal t (WriteCopies bytes places) images = as_wrote (write_piece t.setting bytes places images)
means journal t (WritePart attempt p sum copies levels path bytes) images =
    as_stored (place_part levels journal (writing_of t attempt p sum copies) path bytes images)
means journal t (ReadHeads look levels path bp) images = as_walked (walk levels (visit_of t.setting look) path bp images)
means journal t (ReadTree tree) images = as_got (read_tree t.setting tree images)
means journal t (TakePlaces tree) images = record { value = Taken (are_open t.used (tree_places tree)); asks = []; images = images }
means journal t (Attempt attempt p kids) images = as_one (attempt_root journal t attempt p kids images)
means journal t (Settle p kids) images = as_settled (settle_root reexecutions_max journal t 0 p kids images)

-- a tree in a round, as the flat lists have it
abbrev pub settled_all : AllEnded → TreeSettled
settled_all e = record { left = e.value.again; ended = e.value.ended; asks = e.asks; images = e.images }

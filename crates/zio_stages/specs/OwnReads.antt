-- A read's own work behind other operations of its node's part: the walk over the block's headers, and then its bodies.
use Rattle.std.specs.Prelude.{◌≡◌, ◌≢◌, ℕ, ◌+◌, ◌<◌, List, [], ◌∷◌, length, slice_get, Option, Some, None, IsTrue}
use Rattle.std.specs.List.{AllByRecursion}
use Rattle.zio_types.specs.declared.place.Top.{Top}
use Rattle.zio_blkptr.specs.declared.pointer.Bp.{Bp}
use Rattle.zio_blkptr.specs.Pointers.{places_of, valid}
use Rattle.zio_gang.specs.declared.tree.Tree.{Tree}
use Rattle.zio_gang.specs.Attempts.{Terms}
use Rattle.zio_trace.specs.Tasks.{Task, Walked}
use Rattle.zio_frames.specs.Frames.{Child, Inner, Stack}
use Rattle.zio_frames.specs.Slots.{IsOut, Slot}
use Rattle.zio_stages.specs.NodeIos.{NoneSits, SitsOn}
use Rattle.zio_stages.specs.OwnParts.{IsBehind, ToldSince}
use Rattle.zio_stages.specs.ReadIos.{IsReadIo, IsReadOutIn, IsReadOver}
use Rattle.zio_stages.specs.TreeWorks.{IsTreeWork, body_task, heads_task, slots_with}
use Rattle.zio_stages.specs.WriteIos.{AreIoPlaces}
use Rattle.zio_stages.specs.declared.family.Layer.TheVariants.{Within}
use Rattle.zio_stages.specs.declared.own_read.BodyIo.{BodyIo}
use Rattle.zio_stages.specs.declared.own_read.OwnRead.{OwnRead}
use Rattle.zio_stages.specs.declared.tree.TreeWork.{TreeWork}

-- ---- what it asked

-- the read of a body
abbrev pub IsBodyTask : Task → Type 0
IsBodyTask op = (bp : Bp) × (op ≡ body_task bp)

-- the walk stands first, and the bodies behind it
abbrev pub AreReads : Tree → List Task → Type 0
AreReads tree [] = Unit {0}
AreReads tree (op ∷ asked) = (op ≡ heads_task tree) × AllByRecursion IsBodyTask asked

-- ---- how far it is

-- the part within is the read of the body with this number
pub record IsBodyWithin (t : Terms) (b : BodyIo) (front : ℕ) (st : Stack) : Type 0 where
  pub inner : Inner
  pub is : st.inner ≡ Some inner
  pub number : inner.number ≡ front + b.number
  pub part : IsReadIo t b.io inner.frame

abbrev pub IsBodyIn : Terms → Option BodyIo → ℕ → Stack → Type 0
IsBodyIn t None front st = st.inner ≡ None
IsBodyIn t (Some b) front st = IsBodyWithin t b front st

-- Behind the operations in front its node's part asked these of the read of this block, and they are so far; a child's may have
-- told since that it has no pointer.
pub record IsOwnRead (t : Terms) (w : OwnRead) (family : List Child) (tree : Tree) (front_asked : List Task) (front : List Slot) (st : Stack) : Type 0 where
  pub asked : List Task
  pub slots : List Slot
  pub begun : List Slot
  pub children : family ≡ st.children
  pub behind : IsBehind front_asked front asked slots st
  pub work : IsTreeWork w.tree tree asked begun
  pub told : ToldSince begun slots
  pub reads : AreReads tree asked
  pub body : IsBodyIn t w.body (length front) st

-- ---- what its fields owe

-- the body lies on the tops
pub record IsBodyOn (tops : List Top) (bp : Bp) : Type 0 where
  pub of_valid : IsTrue (valid bp)
  pub places : AreIoPlaces tops (places_of bp)
  pub some : 0 < length (places_of bp)

-- the walk over the headers is out
abbrev pub IsWalkOut : TreeWork → Type 0
IsWalkOut w = (left : Walked) → slice_get (slots_with left w.read) 0 ≡ Some (IsOut None)

-- the operation of this number is a body's read, and is out
pub record IsBodyOut (w : TreeWork) (n : ℕ) : Type 0 where
  pub behind : 0 < n
  pub out : (left : Walked) → slice_get (slots_with left w.read) n ≡ Some (IsOut None)

-- the operation of this number isn't the read of the body within
abbrev pub IsBeside : ℕ → Option BodyIo → Type 0
IsBeside n None = Unit {0}
IsBeside n (Some b) = b.number ≢ n

-- the part within to the tops, to the node's children and to the tree's read
pub record IsBodyOver (tops : List Top) (w : TreeWork) (b : BodyIo) (family : List Child) : Type 0 where
  pub over : IsReadOver tops b.io
  pub sits : SitsOn Within (IsReadOutIn b.io) family
  pub out : IsBodyOut w b.number

-- all of them; where no part is within, no child does an operation of one
abbrev pub IsOwnOver : List Top → TreeWork → Option BodyIo → List Child → Type 0
IsOwnOver tops w None family = NoneSits Within family
IsOwnOver tops w (Some b) family = IsBodyOver tops w b family

abbrev pub IsOwnReadOver : List Top → OwnRead → List Child → Type 0
IsOwnReadOver tops w family = IsOwnOver tops w.tree w.body family

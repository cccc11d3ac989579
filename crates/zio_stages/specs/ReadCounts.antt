-- How much of a block's read was asked, and what each call changes of that.
use Rattle.std.specs.Prelude.{◌≡◌, ◌+◌, ◌≤◌, ◌⊎◌, List, [], length, Bool, true, false, Option, Some, None}
use Rattle.zio_types.specs.declared.place.Top.{Top}
use Rattle.zio_blkptr.specs.declared.pointer.Bp.{Bp}
use Rattle.zio_trace.specs.Leaves.{Answer}
use Rattle.zio_parts.specs.TreeReads.{ShowsRead}
use Rattle.zio_parts.specs.declared.tree_read.Phase.{Phase}
use Rattle.zio_parts.specs.declared.tree_read.Phase.TheVariants.{Unread, Out, Failed, Found}
use Rattle.zio_parts.specs.declared.tree_read.TreeStep.{TreeStep}
use Rattle.zio_parts.specs.declared.tree_read.TreeStep.TheVariants.{Walk, Body, Wait, End}
use Rattle.zio_stages.specs.NodeIos.{with_one}
use Rattle.zio_stages.specs.ReadIos.{IsReadStep}
use Rattle.zio_stages.specs.declared.leaf.LeafWork.{LeafWork}
use Rattle.zio_stages.specs.declared.own_read.BodyIo.{BodyIo}
use Rattle.zio_stages.specs.declared.own_read.OwnRead.{OwnRead}
use Rattle.zio_stages.specs.declared.tree.TreeWork.{TreeWork}
use Rattle.zio_stages.specs.declared.write_io.IoStep.TheVariants.{Child}

-- ---- how far it is

-- its walk over the headers is no longer due
abbrev pub HasBegun : Phase → Type 0
HasBegun Unread = ⊥
HasBegun Out = Unit {0}
HasBegun (Failed e) = Unit {0}
HasBegun Found = Unit {0}

-- the walk ended, and each body that it came to was handed out
abbrev pub AreHandedOut : Phase → List Bp → List (Option Answer) → Type 0
AreHandedOut Unread bodies results = ⊥
AreHandedOut Out bodies results = ⊥
AreHandedOut (Failed e) bodies results = Unit {0}
AreHandedOut Found bodies results = length bodies ≤ length results

abbrev pub HasWalkBegun : OwnRead → Type 0
HasWalkBegun w = HasBegun w.tree.read.phase

abbrev pub HasHandedAll : OwnRead → Type 0
HasHandedAll w = AreHandedOut w.tree.read.phase w.tree.read.bodies w.tree.read.results

-- its walk over the headers is due
abbrev pub IsWalkDue : OwnRead → Type 0
IsWalkDue w = w.tree.read.phase ≡ Unread

-- nothing of it is asked
pub record IsUnread (w : OwnRead) : Type 0 where
  pub alone : w.body ≡ None
  pub due : w.tree.read.phase ≡ Unread
  pub bodies : w.tree.read.bodies ≡ []
  pub none : w.tree.read.results ≡ []

-- its walk came to one body, which wasn't handed out
pub record HasOneBody (w : OwnRead) : Type 0 where
  pub alone : w.body ≡ None
  pub found : w.tree.read.phase ≡ Found
  pub one : length w.tree.read.bodies ≡ 1
  pub none : w.tree.read.results ≡ []

-- the step begins no body
abbrev pub IsNoBody : TreeStep → Type 0
IsNoBody Walk = Unit {0}
IsNoBody (Body body) = ⊥
IsNoBody Wait = Unit {0}
IsNoBody End = Unit {0}

-- no operation on a leaf can be handed out: of the body that the node reads itself, or where there is none, of a next one
abbrev pub IsNoneDueIn : List Top → TreeWork → Option BodyIo → Type 0
IsNoneDueIn tops tree None = (step : TreeStep) × IsNoBody step × ShowsRead tree.read step
IsNoneDueIn tops tree (Some b) = IsReadStep tops b.io Child → ⊥

abbrev pub IsNoneDue : List Top → OwnRead → Type 0
IsNoneDue tops w = IsNoneDueIn tops w.tree w.body

-- one can, of the body that the node reads itself
abbrev pub IsOneDueIn : List Top → Option BodyIo → Type 0
IsOneDueIn tops None = ⊥
IsOneDueIn tops (Some b) = IsReadStep tops b.io Child

abbrev pub IsOneDue : List Top → OwnRead → Type 0
IsOneDue tops w = IsOneDueIn tops w.body

-- the walk or a body is to be handed out
abbrev pub IsMoreStep : TreeStep → Type 0
IsMoreStep Walk = Unit {0}
IsMoreStep (Body body) = Unit {0}
IsMoreStep Wait = ⊥
IsMoreStep End = ⊥

abbrev pub IsMoreToRead : OwnRead → Type 0
IsMoreToRead w = (step : TreeStep) × IsMoreStep step × ShowsRead w.tree.read step

-- ---- what a call changes

-- the same bodies, of which as many were handed out
pub record CountsTheSame (v w : OwnRead) : Type 0 where
  pub phase : w.tree.read.phase ≡ v.tree.read.phase
  pub bodies : w.tree.read.bodies ≡ v.tree.read.bodies
  pub handed : length w.tree.read.results ≡ length v.tree.read.results

-- a child read one of them
pub record HearsBody (v w : OwnRead) : Type 0 where
  pub counts : CountsTheSame v w
  pub body : w.body ≡ v.body

-- the walk, which was due, is out
pub record HandsOutWalk (v w : OwnRead) : Type 0 where
  pub due : v.tree.read.phase ≡ Unread
  pub out : w.tree.read.phase ≡ Out
  pub bodies : w.tree.read.bodies ≡ v.tree.read.bodies
  pub results : w.tree.read.results ≡ v.tree.read.results

-- one more body is
pub record HandsOutBody (v w : OwnRead) : Type 0 where
  pub found : v.tree.read.phase ≡ Found
  pub phase : w.tree.read.phase ≡ v.tree.read.phase
  pub bodies : w.tree.read.bodies ≡ v.tree.read.bodies
  pub handed : length w.tree.read.results ≡ length v.tree.read.results + 1
  pub within : length w.tree.read.results ≤ length w.tree.read.bodies

-- nothing of the body's read is asked
abbrev pub IsFreshBody : Option BodyIo → Type 0
IsFreshBody None = ⊥
IsFreshBody (Some b) = (b.io.asked ≡ 0) × (b.io.read.retry ≡ false)

-- the node begins to read it itself
pub record BeginsBody (v w : OwnRead) : Type 0 where
  pub alone : v.body ≡ None
  pub hands : HandsOutBody v w
  pub fresh : IsFreshBody w.body

-- or all is as before
abbrev pub MayBegin : OwnRead → OwnRead → Type 0
MayBegin v w = (w ≡ v) ⊎ BeginsBody v w

-- of the body that the node reads itself this operation was asked, if there is one
abbrev pub IsAskedMore : Option LeafWork → Option BodyIo → Option BodyIo → Type 0
IsAskedMore leaf None None = leaf ≡ None
IsAskedMore leaf None (Some d) = ⊥
IsAskedMore leaf (Some b) None = ⊥
IsAskedMore leaf (Some b) (Some d) = (d.io.asked ≡ with_one leaf b.io.asked) × (d.io.read.retry ≡ b.io.read.retry)

pub record AsksMore (leaf : Option LeafWork) (v w : OwnRead) : Type 0 where
  pub tree : w.tree ≡ v.tree
  pub body : IsAskedMore leaf v.body w.body

-- the next body may begin, and the operation was asked
pub record StartsBody (leaf : Option LeafWork) (v w : OwnRead) : Type 0 where
  pub mid : OwnRead
  pub begins : MayBegin v mid
  pub asks : AsksMore leaf mid w

-- the second pass begins
abbrev pub IsAgain : Option BodyIo → Option BodyIo → Type 0
IsAgain None d = ⊥
IsAgain (Some b) None = ⊥
IsAgain (Some b) (Some d) = (d.io.asked ≡ b.io.asked) × (b.io.read.retry ≡ false) × (d.io.read.retry ≡ true)

pub record BeginsAgain (v w : OwnRead) : Type 0 where
  pub tree : w.tree ≡ v.tree
  pub body : IsAgain v.body w.body

-- or the body's read closes, if there is one
pub record ClosesBody (v w : OwnRead) : Type 0 where
  pub counts : CountsTheSame v w
  pub alone : w.body ≡ None

abbrev pub AssessesBody : Bool → OwnRead → OwnRead → Type 0
AssessesBody true v w = BeginsAgain v w
AssessesBody false v w = ClosesBody v w

-- A read in an attempt: which stage it may be in, and what each comes to.
use Rattle.std.specs.Prelude.{◌≡◌, ◌^◌, ◌<◌, ℕ, List, length, slice_get, Bool, false, Option, Some, None, IfSome}
use Rattle.zio_types.specs.declared.error.Errno.{Errno}
use Rattle.zio_types.specs.declared.place.Top.{Top}
use Rattle.zio_types.specs.declared.request.ChildKind.TheVariants.{Gang}
use Rattle.zio_script.specs.declared.script.Work.{Work}
use Rattle.zio_script.specs.declared.script.Work.TheVariants.{Null as NullWork, Read as ReadWork, Write as WriteWork, Free as FreeWork, Claim as ClaimWork}
use Rattle.zio_gang.specs.Attempts.{Terms}
use Rattle.zio_gang.specs.Trees.{header_levels_max}
use Rattle.zio_frames.specs.Frames.{Stack, fresh_stack}
use Rattle.zio_parts.specs.TreeReads.{ShowsRead}
use Rattle.zio_parts.specs.declared.tree_read.BodyRead.{BodyRead}
use Rattle.zio_parts.specs.declared.tree_read.TreeStep.TheVariants.{Body, End}
use Rattle.zio_stages.specs.HeadsNodes.{IsHeadsNode, IsHeadsOver}
use Rattle.zio_stages.specs.NodeIos.{IsReadDue}
use Rattle.zio_stages.specs.OwnParts.{HandsTo}
use Rattle.zio_stages.specs.OwnReads.{IsBeside, IsBodyOut, IsWalkOut}
use Rattle.zio_stages.specs.ReadIos.{has_failed}
use Rattle.zio_stages.specs.declared.heads_node.HeadsNode.{HeadsNode}
use Rattle.zio_stages.specs.declared.own_read.BodyIo.{BodyIo}
use Rattle.zio_stages.specs.declared.own_read.OwnRead.{OwnRead}
use Rattle.zio_stages.specs.declared.request_node.Own.{Own}
use Rattle.zio_stages.specs.declared.request_node.Own.TheVariants.{Claim, Due, Found, Free, Over, Read, Stored, Write}
use Rattle.zio_stages.specs.declared.request_node.OwnFound.{OwnFound}

-- ---- its stages

abbrev pub IsReadWork : Work → Type 0
IsReadWork NullWork = ⊥
IsReadWork (ReadWork name prio) = Unit {0}
IsReadWork (WriteWork name sum copies prio body) = ⊥
IsReadWork (FreeWork name) = ⊥
IsReadWork (ClaimWork name pointer) = ⊥

-- its block is read, and this holds of that; or it came to its end
abbrev pub IsReadWith : (OwnRead → Type 0) → Own → Type 0
IsReadWith P Due = ⊥
IsReadWith P (Write w) = ⊥
IsReadWith P (Stored b) = ⊥
IsReadWith P (Read w) = P w
IsReadWith P (Free w) = ⊥
IsReadWith P (Claim w) = ⊥
IsReadWith P (Found own) = Unit {0}
IsReadWith P Over = ⊥

-- of the body that the node reads itself no copy was good
abbrev pub body_failed : Option BodyIo → Bool
body_failed None = false
body_failed (Some b) = has_failed b.io

abbrev pub has_read_failed : Own → Bool
has_read_failed Due = false
has_read_failed (Write w) = false
has_read_failed (Stored b) = false
has_read_failed (Read w) = body_failed w.body
has_read_failed (Free w) = false
has_read_failed (Claim w) = false
has_read_failed (Found own) = false
has_read_failed Over = false

-- its block is read, and this holds of that
abbrev pub IsReadingWith : (OwnRead → Type 0) → Own → Type 0
IsReadingWith P Due = ⊥
IsReadingWith P (Write w) = ⊥
IsReadingWith P (Stored b) = ⊥
IsReadingWith P (Read w) = P w
IsReadingWith P (Free w) = ⊥
IsReadingWith P (Claim w) = ⊥
IsReadingWith P (Found own) = ⊥
IsReadingWith P Over = ⊥

-- its block's read goes on so; whatever else its own work is stays as it is
abbrev pub ReadsOn : (OwnRead → OwnRead → Type 0) → Own → Own → Type 0
ReadsOn P (Read v) (Read w) = P v w
ReadsOn P (Read v) _ = ⊥
ReadsOn P own now = now ≡ own

-- no body is read by the node itself
abbrev pub IsAlone : OwnRead → Type 0
IsAlone w = w.body ≡ None

-- a gang child walks over the headers
abbrev pub IsWalkAlone : OwnRead → Type 0
IsWalkAlone w = IsAlone w × IsWalkOut w.tree

-- a gang child reads a body, the operation of this number, and the node itself reads another or none
abbrev pub IsBodyBeside : ℕ → OwnRead → Type 0
IsBodyBeside n w = IsBodyOut w.tree n × IsBeside n w.body

-- nothing of the pass is out, and nothing can be handed out in it
abbrev pub IsBodyDue : List Top → OwnRead → Type 0
IsBodyDue tops w = IfSome w.body (λ (b : BodyIo). IsReadDue tops b.io)

-- this body is to be handed out next
pub record IsBodyNext (body : BodyRead) (w : OwnRead) : Type 0 where
  pub shows : ShowsRead w.tree.read (Body body)
  pub is : slice_get w.tree.read.bodies body.n ≡ Some body.bp
  pub small : body.n < 2 ^ 63

-- all of it ended
abbrev pub HasReadEnded : OwnRead → Type 0
HasReadEnded w = ShowsRead w.tree.read End × IsAlone w

-- what it came to, once it is told
abbrev pub found_of : Own → Option OwnFound
found_of Due = None
found_of (Write w) = None
found_of (Stored b) = None
found_of (Read w) = None
found_of (Free w) = None
found_of (Claim w) = None
found_of (Found own) = Some own
found_of Over = None

-- with this error, or none
abbrev pub found_error : Own → Option Errno
found_error Due = None
found_error (Write w) = None
found_error (Stored b) = None
found_error (Read w) = None
found_error (Free w) = None
found_error (Claim w) = None
found_error (Found own) = own.error
found_error Over = None

abbrev pub HasFound : Own → Type 0
HasFound own = (found : OwnFound) × (own ≡ Found found)

-- ---- what they come to

-- a walk over headers is one of a whole block, of which nothing is done
abbrev pub IsWholeWalk : HeadsNode → Type 0
IsWholeWalk child = (length child.family ≡ 0) × (child.work.walk.levels ≡ header_levels_max)

-- the walk over the block's headers was handed out, if it was due
abbrev pub HandsWalk : Terms → Option HeadsNode → (Stack → Type 0) → Stack → Type 0
HandsWalk t None IsAfter st = IsAfter st
HandsWalk t (Some child) IsAfter st = HandsTo t Gang (λ op. IsHeadsNode t child (fresh_stack op)) IsAfter st

abbrev pub IsWalkOver : List Top → Option HeadsNode → Type 0
IsWalkOver tops child = IfSome child (IsHeadsOver tops)

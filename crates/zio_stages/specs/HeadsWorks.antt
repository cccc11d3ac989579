-- The walk over a block's headers, or over a claim's, as a node's part of the work.
use Rattle.std.specs.Prelude.{◌≡◌, ℕ, zero, suc, ◌≤◌, List, [], ◌∷◌, ◌++◌, length, slice_get, Bool, true, false, Option, Some, None, IfSome, nat_eq}
use Rattle.std.specs.List.{list_all, starts_with}
use Rattle.zio_types.specs.declared.error.Errno.{Errno}
use Rattle.zio_types.specs.declared.place.Top.{Top}
use Rattle.zio_types.specs.Places.{sector_size}
use Rattle.zio_blkptr.specs.declared.pointer.Bp.{Bp}
use Rattle.zio_blkptr.specs.Pointers.{places_of}
use Rattle.zio_gang.specs.declared.tree.Head.{Head}
use Rattle.zio_gang.specs.Attempts.{Terms}
use Rattle.zio_gang.specs.Trees.{inval_unless, is_claimable, kept_at, piece_size, sizes_of}
use Rattle.zio_trace.specs.Plans.{head_task, plan}
use Rattle.zio_trace.specs.Tasks.{ClaimedBy, KeptAs, Look, ReadCopies, ReadHeads, Task}
use Rattle.zio_frames.specs.Frames.{Frame, fresh_frame, with_asked}
use Rattle.zio_frames.specs.Moves.{AsksNext}
use Rattle.zio_frames.specs.Seats.{IsFull}
use Rattle.zio_frames.specs.Slots.{IsOut}
use Rattle.zio_parts.specs.HeadWalks.{Walking, look_of, named_by, slots_of, walking_from}
use Rattle.zio_stages.specs.PartsOut.{ArePartsOut}
use Rattle.zio_stages.specs.declared.heads.HeadsWork.{HeadsWork}
use Rattle.zio_stages.specs.declared.heads.HeadRead.{HeadRead}
use Rattle.zio_stages.specs.declared.heads.HeadRead.TheVariants.{Kept, Claimed}

-- the read of a header
abbrev pub read_task : HeadRead → Task
read_task (Kept bp bytes) = ReadCopies true (KeptAs bytes) sector_size (places_of bp)
read_task (Claimed bp) = ReadCopies false (ClaimedBy bp) sector_size (places_of bp)

-- whose header it is
abbrev pub pointer_in : HeadRead → Bp
pointer_in (Kept bp bytes) = bp
pointer_in (Claimed bp) = bp

-- what a header's read is of a walk: of a claim, or of a block of which these headers are kept
abbrev pub IsReadOf : HeadsWork → HeadRead → Type 0
IsReadOf w read =
    (heads : List Head) → kept_at w.heads.items w.walk.path ≡ kept_at heads w.walk.path →
    read_task read ≡ head_task (look_of w.walk.claim heads) w.walk.path w.walk.bp

-- of that pointer, as the walk judges
abbrev pub IsReadFor : Walking → HeadRead → Type 0
IsReadFor w (Kept bp bytes) = (w.bp ≡ bp) × (w.claim ≡ false) × IfSome bytes (λ (b : List ℕ). length b ≡ sector_size)
IsReadFor w (Claimed bp) = (w.bp ≡ bp) × (w.claim ≡ true)

-- the error of a claim's pointer, none where all its places are inside their tops and fit what they hold
abbrev pub claim_error : List Top → Bp → Option Errno
claim_error tops bp = inval_unless (list_all (is_claimable (sizes_of tops) (piece_size bp)) (places_of bp))

-- the walk itself
abbrev pub walk_task : Look → HeadsWork → Task
walk_task look w = ReadHeads look w.walk.levels w.walk.path w.walk.bp

-- the header stands at the path or below it
abbrev pub is_under : List ℕ → Head → Bool
is_under path head = starts_with nat_eq head.path path

-- Of the headers that are kept of a block, a walk has that at its path, and those below its members that weren't handed out.
pub record AreKeptFor (mine heads : List Head) (path : List ℕ) (handed : ℕ) : Type 0 where
  pub own : kept_at mine path ≡ kept_at heads path
  pub below : (n : ℕ) (rest : List ℕ) → handed ≤ n → kept_at mine (path ++ n ∷ rest) ≡ kept_at heads (path ++ n ∷ rest)

-- an operation that it asked: the walk below the nth of these members
pub record IsWalkBelow (look : Look) (path : List ℕ) (members : List Bp) (n : ℕ) (op : Task) : Type 0 where
  pub member : Bp
  pub levels : ℕ
  pub named : slice_get members n ≡ Some member
  pub is : op ≡ ReadHeads look levels (path ++ n ∷ []) member

-- the operation of this number: the read of the pointer's header, or the walk below one of the members that it names
abbrev pub IsAskedOf : Look → List ℕ → Bp → List Bp → ℕ → Task → Type 0
IsAskedOf look path bp members zero op = op ≡ head_task look path bp
IsAskedOf look path bp members (suc n) op = IsWalkBelow look path members n op

-- each that it asked is
abbrev pub HasAsked : Look → List ℕ → Bp → List Bp → List Task → Type 0
HasAsked look path bp members asked = (n : ℕ) (op : Task) → slice_get asked n ≡ Some op → IsAskedOf look path bp members n op

-- It is so far in this part. Of a block these headers are kept; a claim needs none.
pub record IsHeadsWork (t : Terms) (w : HeadsWork) (x : Frame) : Type 0 where
  pub heads : List Head
  pub op : x.op ≡ walk_task (look_of w.walk.claim heads) w
  pub slots : x.slots ≡ slots_of w.walk
  pub plan : walking_from heads w.walk ≡ plan t x.op
  pub full : IsFull x
  pub out : ArePartsOut x.asked x.slots
  pub asked : HasAsked (look_of w.walk.claim heads) w.walk.path w.walk.bp (named_by w.walk.header) x.asked
  pub kept : AreKeptFor w.heads.items heads w.walk.path (length w.walk.members)

-- the read of its header is asked next, and is out then
abbrev pub HandsHead : Terms → HeadsWork → HeadRead → Frame → Type 0
HandsHead t after read x = AsksNext t x (read_task read) × IsHeadsWork t after (with_asked x (read_task read) (IsOut None))

-- the walk below a member is asked next, and is out then; nothing of it is done
pub record HandsBelow (t : Terms) (now child : HeadsWork) (x : Frame) : Type 0 where
  pub look : Look
  pub asks : AsksNext t x (walk_task look child)
  pub below : IsHeadsWork t child (fresh_frame (walk_task look child))
  pub after : IsHeadsWork t now (with_asked x (walk_task look child) (IsOut None))

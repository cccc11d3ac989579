-- The walk over headers under way: which program of tasks is left of it, and what each call shows of that.
use Rattle.std.specs.Prelude.{◌≡◌, ℕ, zero, suc, ◌+◌, ◌<◌, ◌≤◌, ◌⊎◌, List, [], ◌∷◌, ◌++◌, length, map, Bool, true, false, Option, Some, None, Ok, Err, IsTrue, slice_get}
use Rattle.zio_types.specs.declared.error.Errno.{Errno}
use Rattle.zio_types.specs.declared.error.Errno.TheVariants.{Cksum}
use Rattle.zio_blkptr.specs.declared.pointer.Bp.{Bp}
use Rattle.zio_blkptr.specs.Pointers.{valid}
use Rattle.zio_cksum.specs.Headers.{members_of}
use Rattle.zio_gang.specs.declared.tree.Head.{Head}
use Rattle.zio_trace.specs.Leaves.{Answer}
use Rattle.zio_trace.specs.Plans.{TaskPlan, head_task, join_walked, plan_found, plan_pointer, stopped, under_head}
use Rattle.zio_trace.specs.Programs.{Ends, ◌>>=◌, ask}
use Rattle.zio_trace.specs.Tasks.{ByKept, ByClaim, Got, Look, ReadHeads, Value, Walked, WalkedBy, got}
use Rattle.zio_frames.specs.Slots.{AllHeard, AsksBehindSlots, Heard, IsOut, Slot, left_behind_slots, told_in}
use Rattle.zio_parts.specs.declared.head_walk.Header.{Header}
use Rattle.zio_parts.specs.declared.head_walk.Header.TheVariants.{Unread, Out, Failed, Read}
use Rattle.zio_parts.specs.declared.head_walk.WalkStep.{WalkStep}
use Rattle.zio_parts.specs.declared.head_walk.WalkStep.TheVariants.{ReadHead, Member, Wait, End}

-- Whether it is a claim's, how many levels of headers may follow, where it begins, the error of its pointer, how far the
-- header's read is, and of each walk below a member that was handed out what it left; none, where it is out.
pub record Walking : Type 0 where
  pub claim : Bool
  pub levels : ℕ
  pub path : List ℕ
  pub bp : Bp
  pub judged : Option Errno
  pub header : Header
  pub members : List (Option Walked)

-- ---- what it asked

-- the walk below a member
abbrev pub member_slot : Option Walked → Slot
member_slot None = IsOut None
member_slot (Some w) = Heard (WalkedBy w)

-- the header's read, and behind it the walks below the members
abbrev pub walk_slots : Header → List (Option Walked) → List Slot
walk_slots Unread members = []
walk_slots Out members = IsOut None ∷ []
walk_slots (Failed e) members = Heard (Got (Err e)) ∷ []
walk_slots (Read bytes) members = Heard (Got (Ok bytes)) ∷ map member_slot members

abbrev pub slots_of : Walking → List Slot
slots_of x = walk_slots x.header x.members

-- the members that a header names, none before it was read
abbrev pub named_by : Header → List Bp
named_by (Read bytes) = members_of bytes
named_by _ = []

-- ---- what is left

-- how it looks, where these are the headers that are kept
abbrev pub look_of : Bool → List Head → Look
look_of true heads = ByClaim
look_of false heads = ByKept heads

-- from a gang's pointer down
abbrev pub following : Look → ℕ → List ℕ → Bp → TaskPlan Value
following look zero path bp = Ends (WalkedBy (stopped Cksum))
following look (suc levels) path bp = ask (head_task look path bp) >>= λ v. plan_found (ReadHeads look levels) path (got v)

-- the plan, by the error of the pointer
abbrev pub walking_from : List Head → Walking → TaskPlan Value
walking_from heads x = plan_pointer x.judged x.bp.gang x.bp (following (look_of x.claim heads) x.levels x.path x.bp)

-- The rest of the plan. So many of its first operations are out as of the slots.
abbrev pub left_of_walk : List Head → Walking → TaskPlan Value
left_of_walk heads x = left_behind_slots (slots_of x) (walking_from heads x)

-- whether its header is read
abbrev pub is_followed : Option Errno → Bool → ℕ → Bool
is_followed (Some e) gang levels = false
is_followed None false levels = false
is_followed None true zero = false
is_followed None true (suc levels) = true

abbrev pub Follows : Walking → Type 0
Follows x = IsTrue (is_followed x.judged x.bp.gang x.levels)

-- one of them is out
abbrev pub is_any_out : List (Option Walked) → Bool
is_any_out [] = false
is_any_out (None ∷ left) = true
is_any_out (Some w ∷ left) = is_any_out left

-- ---- what it left

abbrev pub no_walk : Walked
no_walk = record { errors = []; bodies = []; heads = [] }

abbrev pub body_of : Bp → Walked
body_of bp = record { errors = []; bodies = bp ∷ []; heads = [] }

-- a walk, and what the walk below a member left behind it
abbrev pub with_member : Walked → Option Walked → Walked
with_member w None = w
with_member w (Some others) = join_walked w others

abbrev pub joined_behind : Walked → List (Option Walked) → Walked
joined_behind w [] = w
joined_behind w (m ∷ members) = joined_behind (with_member w m) members

-- what the walks left that ended
abbrev pub joined : List (Option Walked) → Walked
joined [] = no_walk
joined (None ∷ members) = joined members
joined (Some w ∷ members) = join_walked w (joined members)

abbrev pub header_left : List ℕ → Header → List (Option Walked) → Walked
header_left path (Failed e) members = stopped e
header_left path (Read bytes) members = under_head path bytes (joined members)
header_left path _ members = no_walk

abbrev pub pointer_left : Option Errno → Bool → ℕ → Bp → Walked → Walked
pointer_left (Some e) gang levels bp below = stopped e
pointer_left None false levels bp below = body_of bp
pointer_left None true zero bp below = stopped Cksum
pointer_left None true (suc levels) bp below = below

abbrev pub walk_left : Walking → Walked
walk_left x = pointer_left x.judged x.bp.gang x.levels x.bp (header_left x.path x.header x.members)

-- ---- calls

-- nothing of it is done
abbrev pub fresh_walk : Bool → ℕ → List ℕ → Bp → Option Errno → Walking
fresh_walk claim levels path bp judged = record {
  claim = claim;
  levels = levels;
  path = path;
  bp = bp;
  judged = judged;
  header = Unread;
  members = [];
}

abbrev pub with_header : Walking → Header → Walking
with_header x header = record {
  claim = x.claim;
  levels = x.levels;
  path = x.path;
  bp = x.bp;
  judged = x.judged;
  header = header;
  members = x.members;
}

abbrev pub with_members : Walking → List (Option Walked) → Walking
with_members x members = record {
  claim = x.claim;
  levels = x.levels;
  path = x.path;
  bp = x.bp;
  judged = x.judged;
  header = x.header;
  members = members;
}

-- a header that was read, or failed
abbrev pub header_by : Answer → Header
header_by (Ok bytes) = Read bytes
header_by (Err e) = Failed e

-- What a step shows of the rest: the task that it asks next; that it waits for those that are out, all of those that it can
-- ask yet; or its end.
abbrev pub ShowsWalk : Walking → WalkStep → Type 0
ShowsWalk x ReadHead =
    (x.header ≡ Unread) × Follows x
    × ((heads : List Head) → AsksBehindSlots (slots_of x) (walking_from heads x) (head_task (look_of x.claim heads) x.path x.bp))
ShowsWalk x (Member m) =
    (length x.members < length (named_by x.header)) × (length x.members ≡ m.n) × (m.path ≡ x.path ++ m.n ∷ []) × (m.levels + 1 ≡ x.levels)
    × (length m.path + m.levels ≤ 8) × IsTrue (valid m.bp) × (slice_get (named_by x.header) m.n ≡ Some m.bp)
    × ((heads : List Head) → AsksBehindSlots (slots_of x) (walking_from heads x) (ReadHeads (look_of x.claim heads) m.levels m.path m.bp))
ShowsWalk x Wait = (0 < length (told_in (slots_of x))) × ((x.header ≡ Out) ⊎ (length x.members ≡ length (named_by x.header)))
ShowsWalk x End = AllHeard (slots_of x) × ((heads : List Head) → left_of_walk heads x ≡ Ends (WalkedBy (walk_left x)))

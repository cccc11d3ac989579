-- Plans: how each task is done by tasks below it, down to single operations on leaves and acts of the space.
use Rattle.std.specs.Prelude.{ℕ, zero, suc, ◌+◌, List, [], ◌∷◌, ◌++◌, length, map, Bool, true, false, Option, Some, None, option_map, Ok, Err, nat_le, slice_index_or}
use Rattle.zio_types.specs.declared.error.Errno.{Errno}
use Rattle.zio_types.specs.declared.error.Errno.TheVariants.{Cksum, Noent, Inval, Exist}
use Rattle.zio_types.specs.declared.place.Place.{Place}
use Rattle.zio_types.specs.Choices.{no_place}
use Rattle.zio_types.specs.Errors.{worst_error, worst_of}
use Rattle.zio_types.specs.Filled.{filled_to}
use Rattle.zio_types.specs.Places.{sector_size}
use Rattle.zio_types.specs.Paths.{path_steps_max}
use Rattle.zio_blkptr.specs.declared.pointer.Bp.{Bp}
use Rattle.zio_blkptr.specs.declared.pointer.SumKind.{SumKind}
use Rattle.zio_blkptr.specs.Pointers.{places_of, pointer_of}
use Rattle.zio_script.specs.declared.script.Work.{Work}
use Rattle.zio_script.specs.declared.script.Work.TheVariants.{Null, Read as WorkRead, Write, Free, Claim}
use Rattle.zio_script.specs.Bodies.{body_of}
use Rattle.zio_cksum.specs.Blocks.{blame}
use Rattle.zio_cksum.specs.Headers.{split_sizes, members_max, members_of, header_of}
use Rattle.zio_gang.specs.declared.tree.Head.{Head}
use Rattle.zio_gang.specs.declared.tree.Tree.{Tree}
use Rattle.zio_gang.specs.Attempts.{Terms, Pending, Return, Child, Ended, Own, Attempted, writing_of, now_alone, insert_children, children_of, judged_own, reexecutions_max}
use Rattle.zio_gang.specs.Trees.{kept_at, header_levels_max, unless_errors}
use Rattle.zio_gang.specs.Writes.{Writing, body_ask, head_ask, pointer_to, cut, content_of}
use Rattle.zio_trace.specs.CopyPrograms.{block_reading, piece_writing}
use Rattle.zio_trace.specs.Families.{Forest, NoTrees, TreeOf, before, root_left}
use Rattle.zio_trace.specs.Leaves.{LeafOp, Answer}
use Rattle.zio_trace.specs.Programs.{Program as ProgramOf, Ends, Asks, ◌>>=◌, ask}
use Rattle.zio_trace.specs.Tasks.{BodyOf, KeptAs, ClaimedBy, good_by, Look, ByKept, ByClaim, visit_of, Task, Leaf, Find, ReadCopies, WriteCopies, WritePart, ReadHeads, ReadTree, TakePlaces, Attempt, Settle, Stored, Walked, OwnGot, One, Settled, Value, Got, Wrote, StoredAs, WalkedBy, AttemptedBy, SettledBy, nowhere, got, wrote, found, stored, walked, taken, attempted}

-- a program of tasks
abbrev pub TaskPlan : Type 0 → Type 0
TaskPlan A = ProgramOf Task Value A

-- a program of leaf operations as a plan
abbrev pub by_leaves : {A : Type 0} → ProgramOf LeafOp Answer A → TaskPlan A
by_leaves (Ends a) = Ends a
by_leaves (Asks act more) = Asks (Leaf act) (λ v. by_leaves (more (got v)))

-- ---- a part that is written

-- what members leave
pub record Kin : Type 0 where
  pub errors : List (Option Errno)
  pub pointers : List (Option Bp)
  pub heads : List Head

abbrev pub add_kin : Stored → Kin → Kin
add_kin m others = record {
  errors = m.error ∷ others.errors;
  pointers = m.pointer ∷ others.pointers;
  heads = m.heads ++ others.heads;
}

abbrev pub plan_members : (List ℕ → List ℕ → TaskPlan Value) → List ℕ → ℕ → List (List ℕ) → TaskPlan Kin
plan_members below path n [] = Ends (record { errors = []; pointers = []; heads = [] })
plan_members below path n (part ∷ parts) =
    below (path ++ n ∷ []) part >>= λ v. plan_members below path (n + 1) parts >>= λ others. Ends (add_kin (stored v) others)

abbrev pub header_over : Writing → List Place → Kin → List ℕ
header_over w places m = header_of (filled_to None members_max m.pointers) (slice_index_or places 0 no_place) w.birth

abbrev pub gang_stored : Writing → List ℕ → List ℕ → List Place → Kin → Option Errno → Stored
gang_stored w path bytes places m error = record {
  error = worst_error (worst_of m.errors) error;
  pointer = Some (pointer_to w places true bytes);
  heads = record { path = path; bytes = header_over w places m } ∷ m.heads;
}

abbrev pub plan_gang : Option (List Place) → Writing → (List ℕ → List ℕ → TaskPlan Value) → List ℕ → List ℕ → TaskPlan Value
plan_gang None w below path bytes = Ends (StoredAs nowhere)
plan_gang (Some places) w below path bytes =
    plan_members below path 0 (cut (split_sizes (length bytes)) bytes)
    >>= λ m. ask (WriteCopies (header_over w places m) places)
    >>= λ v. Ends (StoredAs (gang_stored w path bytes places m (wrote v)))

abbrev pub plan_gang_unless : Bool → Writing → (List ℕ → List ℕ → TaskPlan Value) → List ℕ → List ℕ → TaskPlan Value
plan_gang_unless true w below path bytes = Ends (StoredAs nowhere)
plan_gang_unless false w below path bytes = ask (Find (head_ask w path)) >>= λ v. plan_gang (found v) w below path bytes

abbrev pub plan_body : Option (List Place) → Writing → (List ℕ → List ℕ → TaskPlan Value) → List ℕ → List ℕ → TaskPlan Value
plan_body (Some places) w below path bytes =
    ask (WriteCopies bytes places)
    >>= λ v. Ends (StoredAs (record { error = wrote v; pointer = Some (pointer_to w places false bytes); heads = [] }))
plan_body None w below path bytes = plan_gang_unless (nat_le (length bytes) sector_size) w below path bytes

abbrev pub plan_part : Writing → (List ℕ → List ℕ → TaskPlan Value) → List ℕ → List ℕ → TaskPlan Value
plan_part w below path bytes = ask (Find (body_ask w path bytes)) >>= λ v. plan_body (found v) w below path bytes

-- ---- headers that are read

abbrev pub head_task : Look → List ℕ → Bp → Task
head_task (ByKept heads) path bp = ReadCopies true (KeptAs (kept_at heads path)) sector_size (places_of bp)
head_task ByClaim path bp = ReadCopies false (ClaimedBy bp) sector_size (places_of bp)

abbrev pub stopped : Errno → Walked
stopped e = record { errors = Some e ∷ []; bodies = []; heads = [] }

abbrev pub join_walked : Walked → Walked → Walked
join_walked w others = record { errors = w.errors ++ others.errors; bodies = w.bodies ++ others.bodies; heads = w.heads ++ others.heads }

abbrev pub under_head : List ℕ → List ℕ → Walked → Walked
under_head path bytes w = record { errors = w.errors; bodies = w.bodies; heads = record { path = path; bytes = bytes } ∷ w.heads }

abbrev pub plan_below : (List ℕ → Bp → Task) → List ℕ → ℕ → List Bp → TaskPlan Walked
plan_below down path n [] = Ends (record { errors = []; bodies = []; heads = [] })
plan_below down path n (m ∷ ms) =
    ask (down (path ++ n ∷ []) m) >>= λ v. plan_below down path (n + 1) ms >>= λ others. Ends (join_walked (walked v) others)

abbrev pub plan_found : (List ℕ → Bp → Task) → List ℕ → Answer → TaskPlan Value
plan_found down path (Err e) = Ends (WalkedBy (stopped e))
plan_found down path (Ok bytes) = plan_below down path 0 (members_of bytes) >>= λ w. Ends (WalkedBy (under_head path bytes w))

abbrev pub plan_pointer : Option Errno → Bool → Bp → TaskPlan Value → TaskPlan Value
plan_pointer (Some e) gang bp follow = Ends (WalkedBy (stopped e))
plan_pointer None false bp follow = Ends (WalkedBy (record { errors = []; bodies = bp ∷ []; heads = [] }))
plan_pointer None true bp follow = follow

-- ---- a tree that is read

pub record Bodies : Type 0 where
  pub errors : List (Option Errno)
  pub bytes : List ℕ

abbrev pub add_got : Answer → Bodies → Bodies
add_got (Ok bytes) others = record { errors = others.errors; bytes = bytes ++ others.bytes }
add_got (Err e) others = record { errors = Some e ∷ others.errors; bytes = others.bytes }

abbrev pub plan_bodies : List Bp → TaskPlan Bodies
plan_bodies [] = Ends (record { errors = []; bytes = [] })
plan_bodies (bp ∷ bps) =
    ask (ReadCopies true (BodyOf bp) bp.size (places_of bp)) >>= λ v. plan_bodies bps >>= λ others. Ends (add_got (got v) others)

abbrev pub plan_after : List (Option Errno) → List Bp → TaskPlan Value
plan_after [] bodies = plan_bodies bodies >>= λ b. Ends (Got (unless_errors b.errors b.bytes))
plan_after (e ∷ errors) bodies = Ends (Got (Err (blame (e ∷ errors))))

-- ---- a request's own work

abbrev pub plan_write : Terms → ℕ → Pending → SumKind → ℕ → ℕ → List ℕ → List ℕ → TaskPlan Value
plan_write t attempt p sum copies zero path bytes =
    plan_part (writing_of t attempt p sum copies) (λ below part. Ends (StoredAs nowhere)) path bytes
plan_write t attempt p sum copies (suc levels) path bytes =
    plan_part (writing_of t attempt p sum copies) (λ below part. ask (WritePart attempt p sum copies levels below part)) path bytes

abbrev pub plan_tree : Tree → TaskPlan Value
plan_tree tree = ask (ReadHeads (ByKept tree.heads) header_levels_max [] tree.bp) >>= λ v. plan_after (walked v).errors (walked v).bodies

abbrev pub only : Option Errno → OwnGot
only error = record { error = error; bytes = []; tree = None; pointer = None }

abbrev pub own_read_by : Answer → OwnGot
own_read_by (Ok bytes) = record { error = None; bytes = bytes; tree = None; pointer = None }
own_read_by (Err e) = only (Some e)

abbrev pub own_stored : Stored → OwnGot
own_stored x = record {
  error = x.error;
  bytes = [];
  tree = option_map (λ (bp : Bp). record { bp = bp; heads = x.heads }) x.pointer;
  pointer = x.pointer;
}

abbrev pub own_taken : Bool → Tree → OwnGot
own_taken true tree = record { error = None; bytes = []; tree = Some tree; pointer = None }
own_taken false tree = only (Some Exist)

abbrev pub plan_read : Option Tree → TaskPlan OwnGot
plan_read None = Ends (only (Some Noent))
plan_read (Some tree) = plan_tree tree >>= λ v. Ends (own_read_by (got v))

abbrev pub plan_free : Option Tree → TaskPlan OwnGot
plan_free None = Ends (only (Some Noent))
plan_free (Some tree) =
    ask (ReadHeads (ByKept tree.heads) header_levels_max [] tree.bp) >>= λ v. Ends (only (worst_of (walked v).errors))

abbrev pub plan_taken : List (Option Errno) → Tree → TaskPlan OwnGot
plan_taken [] tree = ask (TakePlaces tree) >>= λ v. Ends (own_taken (taken v) tree)
plan_taken (e ∷ errors) tree = Ends (only (Some (blame (e ∷ errors))))

abbrev pub plan_claim : Option Bp → TaskPlan OwnGot
plan_claim None = Ends (only (Some Inval))
plan_claim (Some bp) =
    ask (ReadHeads ByClaim header_levels_max [] bp) >>= λ v. plan_taken (walked v).errors (record { bp = bp; heads = (walked v).heads })

abbrev pub plan_own : Terms → ℕ → Pending → Work → List (Option Bp) → TaskPlan OwnGot
plan_own t attempt p Null pointers = Ends (only None)
plan_own t attempt p (WorkRead name prio) pointers = plan_read p.block
plan_own t attempt p (Write name sum copies prio body) pointers =
    plan_write t attempt p sum copies path_steps_max [] (content_of pointers (body_of body)) >>= λ v. Ends (own_stored (stored v))
plan_own t attempt p (Free name) pointers = plan_free p.block
plan_own t attempt p (Claim name pointer) pointers = plan_claim (pointer_of pointer)

-- ---- an attempt

pub record Kids : Type 0 where
  pub returns : List Return
  pub ended : List Ended
  pub again : List Pending
  pub left : Forest

abbrev pub add_kid : One → Kids → Kids
add_kid one o = record {
  returns = o.returns ++ one.return ∷ [];
  ended = one.ended ++ o.ended;
  again = one.again ++ o.again;
  left = before one.left o.left;
}

abbrev pub plan_kids : ℕ → Forest → TaskPlan Kids
plan_kids attempt NoTrees = Ends (record { returns = []; ended = []; again = []; left = NoTrees })
plan_kids attempt (TreeOf p kids others) =
    ask (Attempt attempt p kids) >>= λ v. plan_kids attempt others >>= λ o. Ends (add_kid (attempted v) o)

-- the own work as it is judged, over no images
abbrev pub bare : OwnGot → Own
bare o = record { error = o.error; bytes = o.bytes; tree = o.tree; pointer = o.pointer; asks = []; images = [] }

abbrev pub one_of : Kids → Attempted → One
one_of k one = record {
  return = one.return;
  ended = k.ended ++ one.ended;
  again = k.again ++ one.again;
  left = root_left one.again k.left;
}

abbrev pub plan_root : Terms → ℕ → Pending → Kids → TaskPlan Value
plan_root t attempt p k =
    plan_own t attempt p p.request.work (map (λ (c : Child). c.pointer) (insert_children (children_of k.returns) p.kept))
    >>= λ own. Ends (AttemptedBy (one_of k (judged_own t p k.returns (bare own))))

abbrev pub add_settled : One → Settled → Settled
add_settled one later = record { ended = one.ended ++ later.ended; again = later.again; left = later.left }

abbrev pub settled_one : One → Settled
settled_one one = record { ended = one.ended; again = one.again; left = one.left }

abbrev pub plan_left : One → Forest → (Pending → Forest → TaskPlan Settled) → TaskPlan Settled
plan_left one NoTrees again = Ends (settled_one one)
plan_left one (TreeOf p kids others) again = again p kids >>= λ later. Ends (add_settled one later)

abbrev pub plan_again : Bool → One → (Pending → Forest → TaskPlan Settled) → TaskPlan Settled
plan_again true one again = plan_left one one.left again
plan_again false one again = Ends (settled_one one)

abbrev pub plan_settle : ℕ → ℕ → Pending → Forest → TaskPlan Settled
plan_settle zero attempt p kids = ask (Attempt attempt p kids) >>= λ v. Ends (settled_one (attempted v))
plan_settle (suc more) attempt p kids =
    ask (Attempt attempt p kids)
    >>= λ v. plan_again (now_alone (attempted v).return.bits) (attempted v) (plan_settle more (attempt + 1))

-- ---- how a node does its task

abbrev pub plan : Terms → Task → TaskPlan Value
plan t (Leaf act) = ask (Leaf act)
plan t (Find a) = ask (Find a)
plan t (ReadCopies repair test len places) = by_leaves (block_reading t.setting repair (good_by test) len places) >>= λ a. Ends (Got a)
plan t (WriteCopies bytes places) = by_leaves (piece_writing t.setting bytes places) >>= λ e. Ends (Wrote e)
plan t (WritePart attempt p sum copies levels path bytes) = plan_write t attempt p sum copies levels path bytes
plan t (ReadHeads look zero path bp) = plan_pointer ((visit_of t.setting look).judge bp) bp.gang bp (Ends (WalkedBy (stopped Cksum)))
plan t (ReadHeads look (suc levels) path bp) =
    plan_pointer ((visit_of t.setting look).judge bp) bp.gang bp (ask (head_task look path bp) >>= λ v. plan_found (ReadHeads look levels) path (got v))
plan t (ReadTree tree) = plan_tree tree
plan t (TakePlaces tree) = ask (TakePlaces tree)
plan t (Attempt attempt p kids) = plan_kids attempt kids >>= λ k. plan_root t attempt p k
plan t (Settle p kids) = plan_settle reexecutions_max 0 p kids >>= λ x. Ends (SettledBy x)

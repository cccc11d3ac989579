-- Whatever answers come, plans of tasks end at operations of leaves and of the space.
use Rattle.std.proofs.Common.{◌≡◌, ℕ, zero, suc, ◌+◌, List, [], ◌∷◌, ◌++◌, length, Bool, true, false, nat_le, Option, Some, None, Ok, Err, refl}
use Rattle.zio_types.specs.declared.error.Errno.{Errno}
use Rattle.zio_types.specs.declared.place.Place.{Place}
use Rattle.zio_types.specs.Places.{sector_size}
use Rattle.zio_types.specs.Paths.{path_steps_max}
use Rattle.zio_blkptr.specs.declared.pointer.Bp.{Bp}
use Rattle.zio_blkptr.specs.declared.pointer.SumKind.{SumKind}
use Rattle.zio_blkptr.specs.Pointers.{pointer_of}
use Rattle.zio_script.specs.declared.script.Work.{Work}
use Rattle.zio_script.specs.declared.script.Work.TheVariants.{Null, Read as WorkRead, Write, Free, Claim}
use Rattle.zio_script.specs.Bodies.{body_of}
use Rattle.zio_cksum.specs.Headers.{split_sizes, members_of}
use Rattle.zio_gang.specs.declared.tree.Tree.{Tree}
use Rattle.zio_gang.specs.Attempts.{Terms, Pending, now_alone, reexecutions_max, writing_of}
use Rattle.zio_gang.specs.Writes.{Writing, cut, content_of}
use Rattle.zio_trace.specs.Conflicts.{is_single}
use Rattle.zio_trace.specs.CopyPrograms.{block_reading, piece_writing}
use Rattle.zio_trace.specs.Families.{Forest, NoTrees, TreeOf}
use Rattle.zio_trace.specs.Leaves.{LeafOp, Answer}
use Rattle.zio_trace.specs.Plans.{TaskPlan, Kids, by_leaves, plan_members, plan_gang, plan_gang_unless, plan_body, plan_part, plan_write, head_task, plan_below, plan_found, plan_pointer, plan_bodies, plan_after, plan_tree, plan_read, plan_free, plan_taken, plan_claim, plan_own, plan_kids, plan_root, plan_left, plan_again, plan_settle, plan}
use Rattle.zio_trace.specs.Programs.{Program as ProgramOf, Ends, Asks, ◌>>=◌, ask}
use Rattle.zio_trace.specs.Tasks.{Test, good_by, Look, ByKept, ByClaim, visit_of, Task, Leaf, Find, ReadCopies, WriteCopies, WritePart, ReadHeads, ReadTree, TakePlaces, Attempt, Settle, Value, Got, Wrote, One, Settled, got, found, StoredAs, nowhere, walked, attempted}
use Rattle.zio_trace.specs.Traces.{AsksOnly, Grounded, Bottom, Above}
use Rattle.zio_trace.proofs.TraceLemmas.{mentions_only}

pub only-then : {Op Ans A B : Type 0} (P : Op → Type 0) (p : ProgramOf Op Ans A) (next : A → ProgramOf Op Ans B) → AsksOnly P p → ((a : A) → AsksOnly P (next a)) → AsksOnly P (p >>= next)
only-then P (Ends a) next h k = k a
only-then P (Asks op more) next h k = (h.0, λ answer. only-then P (more answer) next (h.1 answer) k)

module _ (t : Terms) where
  abbrev G : Task → Type 0
  G = Grounded (plan t) is_single

  planned : (task : Task) → is_single task ≡ false → AsksOnly G (plan t task) → G task
  planned task e h = Above e (λ q m. mentions_only G (plan t task) q h m)

  leaf_ground : (a : LeafOp) → G (Leaf a)
  leaf_ground a = Bottom refl

  leaves_ground : {A : Type 0} (p : ProgramOf LeafOp Answer A) → AsksOnly G (by_leaves p)
  leaves_ground (Ends a) = tt
  leaves_ground (Asks act more) = (leaf_ground act, λ v. leaves_ground (more (got v)))

  read_copies_ground : (repair : Bool) (test : Test) (len : ℕ) (places : List Place) → G (ReadCopies repair test len places)
  read_copies_ground repair test len places =
      planned (ReadCopies repair test len places) refl
      (only-then G (by_leaves (block_reading t.setting repair (good_by test) len places)) (λ a. Ends (Got a)) (leaves_ground (block_reading t.setting repair (good_by test) len places)) (λ a. tt))

  write_copies_ground : (bytes : List ℕ) (places : List Place) → G (WriteCopies bytes places)
  write_copies_ground bytes places =
      planned (WriteCopies bytes places) refl
      (only-then G (by_leaves (piece_writing t.setting bytes places)) (λ e. Ends (Wrote e)) (leaves_ground (piece_writing t.setting bytes places)) (λ a. tt))

  -- ---- a part that is written

  module _ (below : List ℕ → List ℕ → TaskPlan Value) (h : (path part : List ℕ) → AsksOnly G (below path part)) where
    members_ground : (path : List ℕ) (n : ℕ) (bits : List (List ℕ)) → AsksOnly G (plan_members below path n bits)
    members_ground path n [] = tt
    members_ground path n (part ∷ bits) =
        only-then G (below (path ++ n ∷ []) part) _ (h (path ++ n ∷ []) part)
        (λ v. only-then G (plan_members below path (n + 1) bits) _ (members_ground path (n + 1) bits) (λ others. tt))

    gang_ground : (places : Option (List Place)) (w : Writing) (path bytes : List ℕ) → AsksOnly G (plan_gang places w below path bytes)
    gang_ground None w path bytes = tt
    gang_ground (Some places) w path bytes =
        only-then G (plan_members below path 0 (cut (split_sizes (length bytes)) bytes)) _ (members_ground path 0 (cut (split_sizes (length bytes)) bytes))
        (λ m. (write_copies_ground _ places, λ v. tt))

    unless_ground : (small : Bool) (w : Writing) (path bytes : List ℕ) → AsksOnly G (plan_gang_unless small w below path bytes)
    unless_ground true w path bytes = tt
    unless_ground false w path bytes = (Bottom refl, λ v. gang_ground (found v) w path bytes)

    body_ground : (places : Option (List Place)) (w : Writing) (path bytes : List ℕ) → AsksOnly G (plan_body places w below path bytes)
    body_ground (Some places) w path bytes = (write_copies_ground bytes places, λ v. tt)
    body_ground None w path bytes = unless_ground (nat_le (length bytes) sector_size) w path bytes

    part_ground : (w : Writing) (path bytes : List ℕ) → AsksOnly G (plan_part w below path bytes)
    part_ground w path bytes = (Bottom refl, λ v. body_ground (found v) w path bytes)

  write_ground : (attempt : ℕ) (p : Pending) (sum : SumKind) (copies levels : ℕ) (path bytes : List ℕ) → AsksOnly G (plan_write t attempt p sum copies levels path bytes)
  write_ground attempt p sum copies zero path bytes = part_ground (λ below part. Ends (StoredAs nowhere)) (λ below part. tt) (writing_of t attempt p sum copies) path bytes
  write_ground attempt p sum copies (suc levels) path bytes =
      part_ground (λ below part. ask (WritePart attempt p sum copies levels below part))
      (λ below part. (planned (WritePart attempt p sum copies levels below part) refl (write_ground attempt p sum copies levels below part), λ v. tt))
      (writing_of t attempt p sum copies) path bytes

  write_part_ground : (attempt : ℕ) (p : Pending) (sum : SumKind) (copies levels : ℕ) (path bytes : List ℕ) → G (WritePart attempt p sum copies levels path bytes)
  write_part_ground attempt p sum copies levels path bytes = planned (WritePart attempt p sum copies levels path bytes) refl (write_ground attempt p sum copies levels path bytes)

  -- ---- headers and trees that are read

  below_ground : (down : List ℕ → Bp → Task) → ((path : List ℕ) (bp : Bp) → G (down path bp)) → (path : List ℕ) (n : ℕ) (ms : List Bp) → AsksOnly G (plan_below down path n ms)
  below_ground down h path n [] = tt
  below_ground down h path n (m ∷ ms) =
      (h (path ++ n ∷ []) m, λ v. only-then G (plan_below down path (n + 1) ms) _ (below_ground down h path (n + 1) ms) (λ others. tt))

  found_ground : (down : List ℕ → Bp → Task) → ((path : List ℕ) (bp : Bp) → G (down path bp)) → (path : List ℕ) (answer : Answer) → AsksOnly G (plan_found down path answer)
  found_ground down h path (Err e) = tt
  found_ground down h path (Ok bytes) = only-then G (plan_below down path 0 (members_of bytes)) _ (below_ground down h path 0 (members_of bytes)) (λ w. tt)

  pointer_ground : (e : Option Errno) (gang : Bool) (bp : Bp) (follow : TaskPlan Value) → AsksOnly G follow → AsksOnly G (plan_pointer e gang bp follow)
  pointer_ground (Some e) gang bp follow h = tt
  pointer_ground None false bp follow h = tt
  pointer_ground None true bp follow h = h

  head_ground : (look : Look) (path : List ℕ) (bp : Bp) → G (head_task look path bp)
  head_ground (ByKept heads) path bp = read_copies_ground _ _ _ _
  head_ground ByClaim path bp = read_copies_ground _ _ _ _

  heads_ground : (look : Look) (levels : ℕ) (path : List ℕ) (bp : Bp) → G (ReadHeads look levels path bp)
  heads_ground look zero path bp =
      planned (ReadHeads look zero path bp) refl (pointer_ground ((visit_of t.setting look).judge bp) bp.gang bp _ tt)
  heads_ground look (suc levels) path bp =
      planned (ReadHeads look (suc levels) path bp) refl
      (pointer_ground ((visit_of t.setting look).judge bp) bp.gang bp _
      (head_ground look path bp, λ v. found_ground (ReadHeads look levels) (heads_ground look levels) path (got v)))

  bodies_ground : (bps : List Bp) → AsksOnly G (plan_bodies bps)
  bodies_ground [] = tt
  bodies_ground (bp ∷ bps) = (read_copies_ground _ _ _ _, λ v. only-then G (plan_bodies bps) _ (bodies_ground bps) (λ others. tt))

  after_ground : (errors : List (Option Errno)) (bodies : List Bp) → AsksOnly G (plan_after errors bodies)
  after_ground [] bodies = only-then G (plan_bodies bodies) _ (bodies_ground bodies) (λ b. tt)
  after_ground (e ∷ errors) bodies = tt

  tree_ground : (tree : Tree) → AsksOnly G (plan_tree tree)
  tree_ground tree = (heads_ground _ _ _ _, λ v. after_ground (walked v).errors (walked v).bodies)

  -- ---- attempts

  read_ground : (block : Option Tree) → AsksOnly G (plan_read block)
  read_ground None = tt
  read_ground (Some tree) = only-then G (plan_tree tree) _ (tree_ground tree) (λ v. tt)

  free_ground : (block : Option Tree) → AsksOnly G (plan_free block)
  free_ground None = tt
  free_ground (Some tree) = (heads_ground _ _ _ _, λ v. tt)

  taken_ground : (errors : List (Option Errno)) (tree : Tree) → AsksOnly G (plan_taken errors tree)
  taken_ground [] tree = (Bottom refl, λ v. tt)
  taken_ground (e ∷ errors) tree = tt

  claim_ground : (pointer : Option Bp) → AsksOnly G (plan_claim pointer)
  claim_ground None = tt
  claim_ground (Some bp) = (heads_ground _ _ _ _, λ v. taken_ground (walked v).errors _)

  own_ground : (attempt : ℕ) (p : Pending) (work : Work) (pointers : List (Option Bp)) → AsksOnly G (plan_own t attempt p work pointers)
  own_ground attempt p Null pointers = tt
  own_ground attempt p (WorkRead name prio) pointers = read_ground p.block
  own_ground attempt p (Write name sum copies prio body) pointers =
      only-then G (plan_write t attempt p sum copies path_steps_max [] (content_of pointers (body_of body))) _
      (write_ground attempt p sum copies path_steps_max [] (content_of pointers (body_of body))) (λ v. tt)
  own_ground attempt p (Free name) pointers = free_ground p.block
  own_ground attempt p (Claim name pointer) pointers = claim_ground (pointer_of pointer)

  root_ground : (attempt : ℕ) (p : Pending) (k : Kids) → AsksOnly G (plan_root t attempt p k)
  root_ground attempt p k = only-then G (plan_own t attempt p p.request.work _) _ (own_ground attempt p p.request.work _) (λ own. tt)

  kids_ground : (attempt : ℕ) (kids : Forest) → AsksOnly G (plan_kids attempt kids)
  kids_ground attempt NoTrees = tt
  kids_ground attempt (TreeOf p kids others) = (
    planned (Attempt attempt p kids) refl (only-then G (plan_kids attempt kids) _ (kids_ground attempt kids) (λ k. root_ground attempt p k)),
    λ v. only-then G (plan_kids attempt others) _ (kids_ground attempt others) (λ o. tt),
  )

  attempt_ground : (attempt : ℕ) (p : Pending) (kids : Forest) → G (Attempt attempt p kids)
  attempt_ground attempt p kids =
      planned (Attempt attempt p kids) refl (only-then G (plan_kids attempt kids) _ (kids_ground attempt kids) (λ k. root_ground attempt p k))

  left_ground : (one : One) (left : Forest) (again : Pending → Forest → TaskPlan Settled) → ((p : Pending) (kids : Forest) → AsksOnly G (again p kids)) → AsksOnly G (plan_left one left again)
  left_ground one NoTrees again h = tt
  left_ground one (TreeOf p kids others) again h = only-then G (again p kids) _ (h p kids) (λ later. tt)

  again_ground : (now : Bool) (one : One) (again : Pending → Forest → TaskPlan Settled) → ((p : Pending) (kids : Forest) → AsksOnly G (again p kids)) → AsksOnly G (plan_again now one again)
  again_ground true one again h = left_ground one one.left again h
  again_ground false one again h = tt

  settle_ground : (more attempt : ℕ) (p : Pending) (kids : Forest) → AsksOnly G (plan_settle more attempt p kids)
  settle_ground zero attempt p kids = (attempt_ground attempt p kids, λ v. tt)
  settle_ground (suc more) attempt p kids =
      (attempt_ground attempt p kids, λ v. again_ground (now_alone (attempted v).return.bits) (attempted v) (plan_settle more (attempt + 1)) (settle_ground more (attempt + 1)))

  pub task_ground : (task : Task) → G task
  task_ground (Leaf a) = Bottom refl
  task_ground (Find a) = Bottom refl
  task_ground (TakePlaces tree) = Bottom refl
  task_ground (ReadCopies repair test len places) = read_copies_ground repair test len places
  task_ground (WriteCopies bytes places) = write_copies_ground bytes places
  task_ground (WritePart attempt p sum copies levels path bytes) = write_part_ground attempt p sum copies levels path bytes
  task_ground (ReadHeads look levels path bp) = heads_ground look levels path bp
  task_ground (ReadTree tree) = planned (ReadTree tree) refl (tree_ground tree)
  task_ground (Attempt attempt p kids) = attempt_ground attempt p kids
  task_ground (Settle p kids) =
      planned (Settle p kids) refl (only-then G (plan_settle reexecutions_max 0 p kids) _ (settle_ground reexecutions_max 0 p kids) (λ x. tt))

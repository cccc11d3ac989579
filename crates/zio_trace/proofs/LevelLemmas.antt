-- A request's operations come to single ones within so many levels, whatever answers come.
use Rattle.std.proofs.Common.{ℕ, zero, suc, ◌+◌, List, [], ◌∷◌, ◌++◌, length, Bool, true, false, nat_le, Option, Some, None, Ok, Err, inl, inr, refl}
use Rattle.zio_types.specs.declared.error.Errno.{Errno}
use Rattle.zio_types.specs.declared.place.Place.{Place}
use Rattle.zio_types.specs.Choices.{Choice}
use Rattle.zio_types.specs.Places.{sector_size}
use Rattle.zio_types.specs.Paths.{path_steps_max}
use Rattle.zio_blkptr.specs.declared.pointer.Bp.{Bp}
use Rattle.zio_blkptr.specs.declared.pointer.SumKind.{SumKind}
use Rattle.zio_blkptr.specs.Pointers.{pointer_of}
use Rattle.zio_script.specs.declared.script.Work.{Work}
use Rattle.zio_script.specs.declared.script.Work.TheVariants.{Null, Read as WorkRead, Write, Free, Claim}
use Rattle.zio_script.specs.Bodies.{body_of}
use Rattle.zio_cksum.specs.Headers.{split_sizes, members_of}
use Rattle.zio_gang.specs.declared.tree.Tree.{Tree}
use Rattle.zio_gang.specs.Attempts.{Terms, Pending, writing_of}
use Rattle.zio_gang.specs.Writes.{Writing, cut, content_of}
use Rattle.zio_trace.specs.CopyPrograms.{block_reading, piece_writing}
use Rattle.zio_trace.specs.Leaves.{LeafOp, Answer}
use Rattle.zio_trace.specs.Plans.{TaskPlan, by_leaves, plan_members, plan_gang, plan_gang_unless, plan_body, plan_part, plan_write, head_task, plan_below, plan_found, plan_pointer, plan_bodies, plan_after, plan_tree, plan_read, plan_free, plan_taken, plan_claim, plan_own, plan}
use Rattle.zio_trace.specs.Programs.{Program as ProgramOf, Ends, Asks, ask}
use Rattle.zio_trace.specs.RoundTraces.{StopsAtSingles, levels_max}
use Rattle.zio_trace.specs.Tasks.{Test, good_by, Look, ByKept, ByClaim, visit_of, Task, Leaf, Find, ReadCopies, WriteCopies, WritePart, ReadHeads, TakePlaces, Value, Got, Wrote, got, found, StoredAs, nowhere, walked, means}
use Rattle.zio_trace.specs.Traces.{AsksOnly}
use Rattle.zio_trace.proofs.DownLemmas.{Reaches}
use Rattle.zio_trace.proofs.GroundLemmas.{only-then}

module _ (stops : Task → Bool) (j : List Choice) (t : Terms) (h : StopsAtSingles stops) where
  abbrev R : ℕ → Task → Type 0
  R = Reaches (means j t) (plan t) stops

  leaf_reached : (n : ℕ) (a : LeafOp) → R n (Leaf a)
  leaf_reached zero a = h (Leaf a) refl
  leaf_reached (suc n) a = inl (h (Leaf a) refl)

  find_reached : (n : ℕ) (a : _) → R n (Find a)
  find_reached zero a = h (Find a) refl
  find_reached (suc n) a = inl (h (Find a) refl)

  take_reached : (n : ℕ) (tree : Tree) → R n (TakePlaces tree)
  take_reached zero tree = h (TakePlaces tree) refl
  take_reached (suc n) tree = inl (h (TakePlaces tree) refl)

  leaves_reached : {A : Type 0} (n : ℕ) (p : ProgramOf LeafOp Answer A) → AsksOnly (R n) (by_leaves p)
  leaves_reached n (Ends a) = tt
  leaves_reached n (Asks act more) = (leaf_reached n act, λ v. leaves_reached n (more (got v)))

  read_copies_reached : (n : ℕ) (repair : Bool) (test : Test) (len : ℕ) (places : List Place) → R (suc n) (ReadCopies repair test len places)
  read_copies_reached n repair test len places =
      inr (only-then (R n) (by_leaves (block_reading t.setting repair (good_by test) len places)) (λ a. Ends (Got a)) (leaves_reached n (block_reading t.setting repair (good_by test) len places)) (λ a. tt))

  write_copies_reached : (n : ℕ) (bytes : List ℕ) (places : List Place) → R (suc n) (WriteCopies bytes places)
  write_copies_reached n bytes places =
      inr (only-then (R n) (by_leaves (piece_writing t.setting bytes places)) (λ e. Ends (Wrote e)) (leaves_reached n (piece_writing t.setting bytes places)) (λ a. tt))

  -- ---- a part that is written

  module _ (n : ℕ) (below : List ℕ → List ℕ → TaskPlan Value) (k : (path part : List ℕ) → AsksOnly (R (suc n)) (below path part)) where
    members_reached : (path : List ℕ) (m : ℕ) (bits : List (List ℕ)) → AsksOnly (R (suc n)) (plan_members below path m bits)
    members_reached path m [] = tt
    members_reached path m (part ∷ bits) =
        only-then (R (suc n)) (below (path ++ m ∷ []) part) _ (k (path ++ m ∷ []) part)
        (λ v. only-then (R (suc n)) (plan_members below path (m + 1) bits) _ (members_reached path (m + 1) bits) (λ others. tt))

    gang_reached : (places : Option (List Place)) (w : Writing) (path bytes : List ℕ) → AsksOnly (R (suc n)) (plan_gang places w below path bytes)
    gang_reached None w path bytes = tt
    gang_reached (Some places) w path bytes =
        only-then (R (suc n)) (plan_members below path 0 (cut (split_sizes (length bytes)) bytes)) _ (members_reached path 0 (cut (split_sizes (length bytes)) bytes))
        (λ m. (write_copies_reached n _ places, λ v. tt))

    unless_reached : (small : Bool) (w : Writing) (path bytes : List ℕ) → AsksOnly (R (suc n)) (plan_gang_unless small w below path bytes)
    unless_reached true w path bytes = tt
    unless_reached false w path bytes = (find_reached (suc n) _, λ v. gang_reached (found v) w path bytes)

    body_reached : (places : Option (List Place)) (w : Writing) (path bytes : List ℕ) → AsksOnly (R (suc n)) (plan_body places w below path bytes)
    body_reached (Some places) w path bytes = (write_copies_reached n bytes places, λ v. tt)
    body_reached None w path bytes = unless_reached (nat_le (length bytes) sector_size) w path bytes

    part_reached : (w : Writing) (path bytes : List ℕ) → AsksOnly (R (suc n)) (plan_part w below path bytes)
    part_reached w path bytes = (find_reached (suc n) _, λ v. body_reached (found v) w path bytes)

  write_reached : (attempt : ℕ) (p : Pending) (sum : SumKind) (copies levels : ℕ) (path bytes : List ℕ) → AsksOnly (R (suc levels)) (plan_write t attempt p sum copies levels path bytes)
  write_reached attempt p sum copies zero path bytes = part_reached 0 (λ below part. Ends (StoredAs nowhere)) (λ below part. tt) (writing_of t attempt p sum copies) path bytes
  write_reached attempt p sum copies (suc levels) path bytes =
      part_reached (suc levels) (λ below part. ask (WritePart attempt p sum copies levels below part))
      (λ below part. (inr (write_reached attempt p sum copies levels below part), λ v. tt))
      (writing_of t attempt p sum copies) path bytes

  -- ---- headers and trees that are read

  below_reached : (n : ℕ) (down : List ℕ → Bp → Task) → ((path : List ℕ) (bp : Bp) → R n (down path bp)) → (path : List ℕ) (m : ℕ) (ms : List Bp) → AsksOnly (R n) (plan_below down path m ms)
  below_reached n down k path m [] = tt
  below_reached n down k path m (b ∷ ms) =
      (k (path ++ m ∷ []) b, λ v. only-then (R n) (plan_below down path (m + 1) ms) _ (below_reached n down k path (m + 1) ms) (λ others. tt))

  found_reached : (n : ℕ) (down : List ℕ → Bp → Task) → ((path : List ℕ) (bp : Bp) → R n (down path bp)) → (path : List ℕ) (answer : Answer) → AsksOnly (R n) (plan_found down path answer)
  found_reached n down k path (Err e) = tt
  found_reached n down k path (Ok bytes) = only-then (R n) (plan_below down path 0 (members_of bytes)) _ (below_reached n down k path 0 (members_of bytes)) (λ w. tt)

  pointer_reached : (n : ℕ) (e : Option Errno) (gang : Bool) (bp : Bp) (follow : TaskPlan Value) → AsksOnly (R n) follow → AsksOnly (R n) (plan_pointer e gang bp follow)
  pointer_reached n (Some e) gang bp follow k = tt
  pointer_reached n None false bp follow k = tt
  pointer_reached n None true bp follow k = k

  head_reached : (n : ℕ) (look : Look) (path : List ℕ) (bp : Bp) → R (suc n) (head_task look path bp)
  head_reached n (ByKept heads) path bp = read_copies_reached n _ _ _ _
  head_reached n ByClaim path bp = read_copies_reached n _ _ _ _

  heads_reached : (look : Look) (levels : ℕ) (path : List ℕ) (bp : Bp) → R (suc levels) (ReadHeads look levels path bp)
  heads_reached look zero path bp = inr (pointer_reached 0 ((visit_of t.setting look).judge bp) bp.gang bp _ tt)
  heads_reached look (suc levels) path bp =
      inr
      (pointer_reached (suc levels) ((visit_of t.setting look).judge bp) bp.gang bp _
      (head_reached levels look path bp, λ v. found_reached (suc levels) (ReadHeads look levels) (heads_reached look levels) path (got v)))

  bodies_reached : (n : ℕ) (bps : List Bp) → AsksOnly (R (suc n)) (plan_bodies bps)
  bodies_reached n [] = tt
  bodies_reached n (bp ∷ bps) = (read_copies_reached n _ _ _ _, λ v. only-then (R (suc n)) (plan_bodies bps) _ (bodies_reached n bps) (λ others. tt))

  after_reached : (n : ℕ) (errors : List (Option Errno)) (bodies : List Bp) → AsksOnly (R (suc n)) (plan_after errors bodies)
  after_reached n [] bodies = only-then (R (suc n)) (plan_bodies bodies) _ (bodies_reached n bodies) (λ b. tt)
  after_reached n (e ∷ errors) bodies = tt

  -- ---- a request's own work

  read_reached : (block : Option Tree) → AsksOnly (R levels_max) (plan_read block)
  read_reached None = tt
  read_reached (Some tree) =
      only-then (R levels_max) (plan_tree tree) _ (heads_reached _ 8 _ _, λ v. after_reached 8 (walked v).errors (walked v).bodies) (λ v. tt)

  free_reached : (block : Option Tree) → AsksOnly (R levels_max) (plan_free block)
  free_reached None = tt
  free_reached (Some tree) = (heads_reached _ 8 _ _, λ v. tt)

  taken_reached : (errors : List (Option Errno)) (tree : Tree) → AsksOnly (R levels_max) (plan_taken errors tree)
  taken_reached [] tree = (take_reached levels_max tree, λ v. tt)
  taken_reached (e ∷ errors) tree = tt

  claim_reached : (pointer : Option Bp) → AsksOnly (R levels_max) (plan_claim pointer)
  claim_reached None = tt
  claim_reached (Some bp) = (heads_reached _ 8 _ _, λ v. taken_reached (walked v).errors _)

  pub own_reached : (attempt : ℕ) (p : Pending) (work : Work) (pointers : List (Option Bp)) → AsksOnly (R levels_max) (plan_own t attempt p work pointers)
  own_reached attempt p Null pointers = tt
  own_reached attempt p (WorkRead name prio) pointers = read_reached p.block
  own_reached attempt p (Write name sum copies prio body) pointers =
      only-then (R levels_max) (plan_write t attempt p sum copies path_steps_max [] (content_of pointers (body_of body))) _
      (write_reached attempt p sum copies path_steps_max [] (content_of pointers (body_of body))) (λ v. tt)
  own_reached attempt p (Free name) pointers = free_reached p.block
  own_reached attempt p (Claim name pointer) pointers = claim_reached (pointer_of pointer)

-- What plans of tasks ask of the space: a plan that takes places chooses none and does nothing after it.
use Rattle.std.proofs.Common.{◌≡◌, ℕ, zero, suc, ◌+◌, List, [], ◌∷◌, ◌++◌, length, Bool, true, false, nat_le, Option, Some, None, Ok, Err, inl, inr, ◌⊎◌, refl, sym, ◌∙◌}
use Rattle.std.proofs.lemmas.Bool.{false≢true}
use Rattle.zio_types.specs.declared.error.Errno.{Errno}
use Rattle.zio_types.specs.declared.place.Place.{Place}
use Rattle.zio_types.specs.Choices.{Ask}
use Rattle.zio_types.specs.Places.{sector_size}
use Rattle.zio_types.specs.Paths.{path_steps_max}
use Rattle.zio_blkptr.specs.declared.pointer.Bp.{Bp}
use Rattle.zio_blkptr.specs.declared.pointer.SumKind.{SumKind}
use Rattle.zio_blkptr.specs.Pointers.{pointer_of}
use Rattle.zio_script.specs.declared.script.Work.{Work}
use Rattle.zio_script.specs.declared.script.Work.TheVariants.{Null, Read as WorkRead, Write, Free, Claim}
use Rattle.zio_script.specs.Bodies.{body_of}
use Rattle.zio_cksum.specs.Headers.{split_sizes, members_of}
use Rattle.zio_gang.specs.declared.tree.Tree.{Tree}
use Rattle.zio_gang.specs.Attempts.{Terms, Pending, now_alone, reexecutions_max, writing_of}
use Rattle.zio_gang.specs.Writes.{Writing, cut, content_of}
use Rattle.zio_trace.specs.CopyPrograms.{block_reading, piece_writing}
use Rattle.zio_trace.specs.Families.{Forest, NoTrees, TreeOf}
use Rattle.zio_trace.specs.Leaves.{LeafOp, Answer}
use Rattle.zio_trace.specs.Plans.{TaskPlan, by_leaves, plan_members, plan_gang, plan_gang_unless, plan_body, plan_part, plan_write, head_task, plan_below, plan_found, plan_pointer, plan_bodies, plan_after, plan_tree, plan_read, plan_free, plan_taken, plan_claim, plan_own, plan_kids, plan_left, plan_again, plan_settle, plan}
use Rattle.zio_trace.specs.Programs.{Program as ProgramOf, Ends, Asks, ◌>>=◌, ask}
use Rattle.zio_trace.specs.Tasks.{good_by, ByKept, ByClaim, Look, visit_of, Task, Leaf, Find, ReadCopies, WriteCopies, WritePart, ReadHeads, ReadTree, TakePlaces, Attempt, Settle, Value, Got, Wrote, One, Settled, SettledBy, got, found, StoredAs, nowhere, walked, attempted}
use Rattle.zio_trace.specs.Traces.{AsksOnly}
use Rattle.zio_trace.proofs.GroundLemmas.{only-then}
pub use Rattle.zio_turns.specs.Claims.{takes}

abbrev pub finds : Task → Bool
finds (Find a) = true
finds _ = false

-- of a request and its children
abbrev pub tries : Task → Bool
tries (Attempt attempt p kids) = true
tries (Settle p kids) = true
tries _ = false

-- none of these
abbrev pub IsOther : Task → Type 0
IsOther op = (takes op ≡ false) × (finds op ≡ false) × (tries op ≡ false)

abbrev pub claims : Work → Bool
claims (Claim name pointer) = true
claims _ = false

module _ (P : Task → Type 0) (other : (op : Task) → IsOther op → P op) (t : Terms) where
  leaves_only : {A : Type 0} (p : ProgramOf LeafOp Answer A) → AsksOnly P (by_leaves p)
  leaves_only (Ends a) = tt
  leaves_only (Asks act more) = (other (Leaf act) (refl, refl, refl), λ v. leaves_only (more (got v)))

  below_only : (look : Look) (levels : ℕ) (path : List ℕ) (n : ℕ) (ms : List Bp) → AsksOnly P
      (plan_below (ReadHeads look levels) path n ms)
  below_only look levels path n [] = tt
  below_only look levels path n (m ∷ ms) = (
    other (ReadHeads look levels (path ++ n ∷ []) m) (refl, refl, refl),
    λ v. only-then P (plan_below (ReadHeads look levels) path (n + 1) ms) _ (below_only look levels path (n + 1) ms)
        (λ others. tt),
  )

  found_only : (look : Look) (levels : ℕ) (path : List ℕ) (answer : Answer) → AsksOnly P
      (plan_found (ReadHeads look levels) path answer)
  found_only look levels path (Err e) = tt
  found_only look levels path (Ok bytes) =
      only-then P (plan_below (ReadHeads look levels) path 0 (members_of bytes)) _
      (below_only look levels path 0 (members_of bytes)) (λ w. tt)

  pointer_only : (e : Option Errno) (gang : Bool) (bp : Bp) (follow : TaskPlan Value) → AsksOnly P follow → AsksOnly P
      (plan_pointer e gang bp follow)
  pointer_only (Some e) gang bp follow h = tt
  pointer_only None false bp follow h = tt
  pointer_only None true bp follow h = h

  head_only : (look : Look) (path : List ℕ) (bp : Bp) → P (head_task look path bp)
  head_only (ByKept heads) path bp = other _ (refl, refl, refl)
  head_only ByClaim path bp = other _ (refl, refl, refl)

  heads_only : (look : Look) (levels : ℕ) (path : List ℕ) (bp : Bp) → AsksOnly P (plan t (ReadHeads look levels path bp))
  heads_only look zero path bp = pointer_only ((visit_of t.setting look).judge bp) bp.gang bp _ tt
  heads_only look (suc levels) path bp =
      pointer_only ((visit_of t.setting look).judge bp) bp.gang bp _
      (head_only look path bp, λ v. found_only look levels path (got v))

  bodies_only : (bps : List Bp) → AsksOnly P (plan_bodies bps)
  bodies_only [] = tt
  bodies_only (bp ∷ bps) = (other _ (refl, refl, refl), λ v. only-then P (plan_bodies bps) _ (bodies_only bps) (λ others. tt))

  after_only : (errors : List (Option Errno)) (bodies : List Bp) → AsksOnly P (plan_after errors bodies)
  after_only [] bodies = only-then P (plan_bodies bodies) _ (bodies_only bodies) (λ b. tt)
  after_only (e ∷ errors) bodies = tt

  tree_only : (tree : Tree) → AsksOnly P (plan_tree tree)
  tree_only tree = (other _ (refl, refl, refl), λ v. after_only (walked v).errors (walked v).bodies)

  module _ (attempts : (attempt : ℕ) (p : Pending) (kids : Forest) → P (Attempt attempt p kids)) where
    kids_only : (attempt : ℕ) (kids : Forest) → AsksOnly P (plan_kids attempt kids)
    kids_only attempt NoTrees = tt
    kids_only attempt (TreeOf p kids others) =
        (attempts attempt p kids, λ v. only-then P (plan_kids attempt others) _ (kids_only attempt others) (λ o. tt))

    left_only : (one : One) (left : Forest) (again : Pending → Forest → TaskPlan Settled) →
        ((p : Pending) (kids : Forest) → AsksOnly P (again p kids))
        → AsksOnly P (plan_left one left again)
    left_only one NoTrees again h = tt
    left_only one (TreeOf p kids others) again h = only-then P (again p kids) _ (h p kids) (λ later. tt)

    again_only : (now : Bool) (one : One) (again : Pending → Forest → TaskPlan Settled) →
        ((p : Pending) (kids : Forest) → AsksOnly P (again p kids))
        → AsksOnly P (plan_again now one again)
    again_only true one again h = left_only one one.left again h
    again_only false one again h = tt

    settle_only : (more attempt : ℕ) (p : Pending) (kids : Forest) → AsksOnly P (plan_settle more attempt p kids)
    settle_only zero attempt p kids = (attempts attempt p kids, λ v. tt)
    settle_only (suc more) attempt p kids = (
      attempts attempt p kids,
      λ v. again_only (now_alone (attempted v).return.bits) (attempted v) (plan_settle more (attempt + 1))
          (settle_only more (attempt + 1)),
    )

  -- ---- what asks for places for a block

  module _ (find : (a : Ask) → P (Find a)) where
    module _ (below : List ℕ → List ℕ → TaskPlan Value) (h : (path part : List ℕ) → AsksOnly P (below path part)) where
      members_only : (path : List ℕ) (n : ℕ) (bits : List (List ℕ)) → AsksOnly P (plan_members below path n bits)
      members_only path n [] = tt
      members_only path n (part ∷ bits) =
          only-then P (below (path ++ n ∷ []) part) _ (h (path ++ n ∷ []) part)
          (λ v. only-then P (plan_members below path (n + 1) bits) _ (members_only path (n + 1) bits) (λ others. tt))

      gang_only : (places : Option (List Place)) (w : Writing) (path bytes : List ℕ) → AsksOnly P
          (plan_gang places w below path bytes)
      gang_only None w path bytes = tt
      gang_only (Some places) w path bytes =
          only-then P (plan_members below path 0 (cut (split_sizes (length bytes)) bytes)) _
          (members_only path 0 (cut (split_sizes (length bytes)) bytes))
          (λ m. (other _ (refl, refl, refl), λ v. tt))

      unless_only : (small : Bool) (w : Writing) (path bytes : List ℕ) → AsksOnly P (plan_gang_unless small w below path bytes)
      unless_only true w path bytes = tt
      unless_only false w path bytes = (find _, λ v. gang_only (found v) w path bytes)

      body_only : (places : Option (List Place)) (w : Writing) (path bytes : List ℕ) → AsksOnly P
          (plan_body places w below path bytes)
      body_only (Some places) w path bytes = (other _ (refl, refl, refl), λ v. tt)
      body_only None w path bytes = unless_only (nat_le (length bytes) sector_size) w path bytes

      part_only : (w : Writing) (path bytes : List ℕ) → AsksOnly P (plan_part w below path bytes)
      part_only w path bytes = (find _, λ v. body_only (found v) w path bytes)

    write_only : (attempt : ℕ) (p : Pending) (sum : SumKind) (copies levels : ℕ) (path bytes : List ℕ)
        → AsksOnly P (plan_write t attempt p sum copies levels path bytes)
    write_only attempt p sum copies zero path bytes =
        part_only (λ below part. Ends (StoredAs nowhere)) (λ below part. tt) (writing_of t attempt p sum copies) path bytes
    write_only attempt p sum copies (suc levels) path bytes =
        part_only (λ below part. ask (WritePart attempt p sum copies levels below part))
        (λ below part. (other _ (refl, refl, refl), λ v. tt)) (writing_of t attempt p sum copies) path bytes

    -- ---- all that a request does but a claim

    read_only : (block : Option Tree) → AsksOnly P (plan_read block)
    read_only None = tt
    read_only (Some tree) = only-then P (plan_tree tree) _ (tree_only tree) (λ v. tt)

    free_only : (block : Option Tree) → AsksOnly P (plan_free block)
    free_only None = tt
    free_only (Some tree) = (other _ (refl, refl, refl), λ v. tt)

    own_only : (attempt : ℕ) (p : Pending) (work : Work) (pointers : List (Option Bp)) → claims work ≡ false → AsksOnly P
        (plan_own t attempt p work pointers)
    own_only attempt p Null pointers e = tt
    own_only attempt p (WorkRead name prio) pointers e = read_only p.block
    own_only attempt p (Write name sum copies prio body) pointers e =
        only-then P (plan_write t attempt p sum copies path_steps_max [] (content_of pointers (body_of body))) _
        (write_only attempt p sum copies path_steps_max [] (content_of pointers (body_of body))) (λ v. tt)
    own_only attempt p (Free name) pointers e = free_only p.block
    own_only attempt p (Claim name pointer) pointers e = absurd (false≢true (sym e))

    attempt_only : ((attempt : ℕ) (p : Pending) (kids : Forest) → P (Attempt attempt p kids)) → (attempt : ℕ) (p : Pending)
        (kids : Forest) → claims p.request.work ≡ false → AsksOnly P (plan t (Attempt attempt p kids))
    attempt_only attempts attempt p kids e =
        only-then P (plan_kids attempt kids) _ (kids_only attempts attempt kids)
        (λ k. only-then P (plan_own t attempt p p.request.work _) _ (own_only attempt p p.request.work _ e) (λ own. tt))

-- ---- what takes places

abbrev pub NoTake : Task → Type 0
NoTake op = takes op ≡ false

abbrev pub NoFind : Task → Type 0
NoFind op = finds op ≡ false

-- what comes behind taken places ends
abbrev pub IsOver : {A : Type 0} → TaskPlan A → Type 0
IsOver (Ends a) = Unit {0}
IsOver (Asks op more) = ⊥

abbrev pub TakesLast : {A : Type 0} → TaskPlan A → Type 0
TakesLast (Ends a) = Unit {0}
TakesLast (Asks op more) = (takes op ≡ true → (v : Value) → IsOver (more v)) × ((v : Value) → TakesLast (more v))

takes_none : {A : Type 0} (p : TaskPlan A) → AsksOnly NoTake p → TakesLast p
takes_none (Ends a) h = tt
takes_none (Asks op more) h = ((λ e. absurd (false≢true (sym h.0 ∙ e))), λ v. takes_none (more v) (h.1 v))

last_then : {A B : Type 0} (p : TaskPlan A) (next : A → TaskPlan B) → AsksOnly NoTake p → ((a : A) → TakesLast (next a))
    → TakesLast (p >>= next)
last_then (Ends a) next h k = k a
last_then (Asks op more) next h k = ((λ e. absurd (false≢true (sym h.0 ∙ e))), λ v. last_then (more v) next (h.1 v) k)

over_last : {A : Type 0} (p : TaskPlan A) → IsOver p → TakesLast p
over_last (Ends a) h = tt
over_last (Asks op more) h = absurd h

over_then : {A B : Type 0} (p : TaskPlan A) (next : A → TaskPlan B) → IsOver p → ((a : A) → IsOver (next a)) → IsOver
    (p >>= next)
over_then (Ends a) next h k = k a
over_then (Asks op more) next h k = h

last_ends : {A B : Type 0} (p : TaskPlan A) (next : A → TaskPlan B) → TakesLast p → ((a : A) → IsOver (next a)) → TakesLast
    (p >>= next)
last_ends (Ends a) next h k = over_last (next a) (k a)
last_ends (Asks op more) next h k = ((λ e v. over_then (more v) next (h.0 e v) k), λ v. last_ends (more v) next (h.1 v) k)

taken_last : (errors : List (Option Errno)) (tree : Tree) → TakesLast (plan_taken errors tree)
taken_last [] tree = ((λ e v. tt), λ v. tt)
taken_last (e ∷ errors) tree = tt

claim_last : (pointer : Option Bp) → TakesLast (plan_claim pointer)
claim_last None = tt
claim_last (Some bp) = ((λ e. absurd (false≢true e)), λ v. taken_last (walked v).errors _)

taken_no_find : (errors : List (Option Errno)) (tree : Tree) → AsksOnly NoFind (plan_taken errors tree)
taken_no_find [] tree = (refl, λ v. tt)
taken_no_find (e ∷ errors) tree = tt

claim_no_find : (pointer : Option Bp) → AsksOnly NoFind (plan_claim pointer)
claim_no_find None = tt
claim_no_find (Some bp) = (refl, λ v. taken_no_find (walked v).errors _)

-- It takes none; or it chooses none, and takes last.
abbrev pub TakesNone : {A : Type 0} → TaskPlan A → Type 0
TakesNone p = AsksOnly NoTake p

pub record ChoosesNone {A : Type 0} (p : TaskPlan A) : Type 0 where
  pub no_find : AsksOnly NoFind p
  pub last : TakesLast p

pub own_claims : (t : Terms) (attempt : ℕ) (p : Pending) (work : Work) (pointers : List (Option Bp)) → claims work ≡ true
    → ChoosesNone (plan_own t attempt p work pointers)
own_claims t attempt p (Claim name pointer) pointers e =
    record { no_find = claim_no_find (pointer_of pointer); last = claim_last (pointer_of pointer) }
own_claims t attempt p Null pointers e = absurd (false≢true e)
own_claims t attempt p (WorkRead name prio) pointers e = absurd (false≢true e)
own_claims t attempt p (Write name sum copies prio body) pointers e = absurd (false≢true e)
own_claims t attempt p (Free name) pointers e = absurd (false≢true e)

attempt_kinds : (t : Terms) (attempt : ℕ) (p : Pending) (kids : Forest) (b : Bool) → claims p.request.work ≡ b
    → TakesNone (plan t (Attempt attempt p kids)) ⊎ ChoosesNone (plan t (Attempt attempt p kids))
attempt_kinds t attempt p kids false e =
    inl (attempt_only NoTake (λ op h. h.0) t (λ a. refl) (λ n q under. refl) attempt p kids e)
attempt_kinds t attempt p kids true e = inr (record {
  no_find = only-then NoFind (plan_kids attempt kids) _ (kids_only NoFind (λ op h. h.1) t (λ n q under. refl) attempt kids)
      (λ k. only-then NoFind (plan_own t attempt p p.request.work _) _ (own_claims t attempt p p.request.work _ e).no_find
      (λ own. tt));
  last = last_then (plan_kids attempt kids) _ (kids_only NoTake (λ op h. h.0) t (λ n q under. refl) attempt kids)
      (λ k. last_ends (plan_own t attempt p p.request.work _) _ (own_claims t attempt p p.request.work _ e).last (λ own. tt));
})

-- what settles a tree asks for attempts alone
pub settle_only_task : (P : Task → Type 0) → ((op : Task) → IsOther op → P op) → (t : Terms)
    → ((attempt : ℕ) (p : Pending) (kids : Forest) → P (Attempt attempt p kids)) → (p : Pending) (kids : Forest)
    → AsksOnly P (plan t (Settle p kids))
settle_only_task P other t attempts p kids =
    only-then P (plan_settle reexecutions_max 0 p kids) (λ x. Ends (SettledBy x))
    (settle_only P other t attempts reexecutions_max 0 p kids) (λ x. tt)

pub task_kinds : (t : Terms) (op : Task) → TakesNone (plan t op) ⊎ ChoosesNone (plan t op)
task_kinds t (Leaf a) = inl (refl, λ v. tt)
task_kinds t (Find a) = inl (refl, λ v. tt)
task_kinds t (TakePlaces tree) = inr (record { no_find = (refl, λ v. tt); last = ((λ e v. tt), λ v. tt) })
task_kinds t (ReadCopies repair test len places) =
    inl (only-then NoTake (by_leaves (block_reading t.setting repair (good_by test) len places)) (λ a. Ends (Got a))
    (leaves_only NoTake (λ op h. h.0) t (block_reading t.setting repair (good_by test) len places)) (λ a. tt))
task_kinds t (WriteCopies bytes places) =
    inl (only-then NoTake (by_leaves (piece_writing t.setting bytes places)) (λ e. Ends (Wrote e))
    (leaves_only NoTake (λ op h. h.0) t (piece_writing t.setting bytes places)) (λ e. tt))
task_kinds t (WritePart attempt p sum copies levels path bytes) =
    inl (write_only NoTake (λ op h. h.0) t (λ a. refl) attempt p sum copies levels path bytes)
task_kinds t (ReadHeads look levels path bp) = inl (heads_only NoTake (λ op h. h.0) t look levels path bp)
task_kinds t (ReadTree tree) = inl (tree_only NoTake (λ op h. h.0) t tree)
task_kinds t (Attempt attempt p kids) = attempt_kinds t attempt p kids (claims p.request.work) refl
task_kinds t (Settle p kids) = inl (settle_only_task NoTake (λ op h. h.0) t (λ n q under. refl) p kids)

-- ---- what attempts no request

abbrev pub NoTry : Task → Type 0
NoTry op = tries op ≡ false

other_tries : (op : Task) → IsOther op → NoTry op
other_tries op h = h.2

taken_no_try : (errors : List (Option Errno)) (tree : Tree) → AsksOnly NoTry (plan_taken errors tree)
taken_no_try [] tree = (refl, λ v. tt)
taken_no_try (e ∷ errors) tree = tt

claim_no_try : (pointer : Option Bp) → AsksOnly NoTry (plan_claim pointer)
claim_no_try None = tt
claim_no_try (Some bp) = (refl, λ v. taken_no_try (walked v).errors _)

-- a request's own work
pub own_no_try : (t : Terms) (attempt : ℕ) (p : Pending) (work : Work) (pointers : List (Option Bp))
    → AsksOnly NoTry (plan_own t attempt p work pointers)
own_no_try t attempt p (Claim name pointer) pointers = claim_no_try (pointer_of pointer)
own_no_try t attempt p Null pointers = tt
own_no_try t attempt p (WorkRead name prio) pointers =
    own_only NoTry other_tries t (λ a. refl) attempt p (WorkRead name prio) pointers refl
own_no_try t attempt p (Write name sum copies prio body) pointers =
    own_only NoTry other_tries t (λ a. refl) attempt p (Write name sum copies prio body) pointers refl
own_no_try t attempt p (Free name) pointers = own_only NoTry other_tries t (λ a. refl) attempt p (Free name) pointers refl

-- and whatever is no attempt itself
pub task_no_try : (t : Terms) (op : Task) → NoTry op → AsksOnly NoTry (plan t op)
task_no_try t (Leaf a) h = (refl, λ v. tt)
task_no_try t (Find a) h = (refl, λ v. tt)
task_no_try t (TakePlaces tree) h = (refl, λ v. tt)
task_no_try t (ReadCopies repair test len places) h =
    only-then NoTry (by_leaves (block_reading t.setting repair (good_by test) len places)) (λ a. Ends (Got a))
    (leaves_only NoTry other_tries t (block_reading t.setting repair (good_by test) len places)) (λ a. tt)
task_no_try t (WriteCopies bytes places) h =
    only-then NoTry (by_leaves (piece_writing t.setting bytes places)) (λ e. Ends (Wrote e))
    (leaves_only NoTry other_tries t (piece_writing t.setting bytes places)) (λ e. tt)
task_no_try t (WritePart attempt p sum copies levels path bytes) h =
    write_only NoTry other_tries t (λ a. refl) attempt p sum copies levels path bytes
task_no_try t (ReadHeads look levels path bp) h = heads_only NoTry other_tries t look levels path bp
task_no_try t (ReadTree tree) h = tree_only NoTry other_tries t tree
task_no_try t (Attempt attempt p kids) h = absurd (false≢true (sym h))
task_no_try t (Settle p kids) h = absurd (false≢true (sym h))

-- ---- whatever takes no places and attempts no request

pub task_only : (P : Task → Type 0) → ((op : Task) → IsOther op → P op) → ((a : Ask) → P (Find a)) → (t : Terms) (op : Task)
    → NoTake op → NoTry op → AsksOnly P (plan t op)
task_only P other find t (Leaf a) h k = (other (Leaf a) (refl, refl, refl), λ v. tt)
task_only P other find t (Find a) h k = (find a, λ v. tt)
task_only P other find t (TakePlaces tree) h k = absurd (false≢true (sym h))
task_only P other find t (ReadCopies repair test len places) h k =
    only-then P (by_leaves (block_reading t.setting repair (good_by test) len places)) (λ a. Ends (Got a))
    (leaves_only P other t (block_reading t.setting repair (good_by test) len places)) (λ a. tt)
task_only P other find t (WriteCopies bytes places) h k =
    only-then P (by_leaves (piece_writing t.setting bytes places)) (λ e. Ends (Wrote e))
    (leaves_only P other t (piece_writing t.setting bytes places)) (λ e. tt)
task_only P other find t (WritePart attempt p sum copies levels path bytes) h k =
    write_only P other t find attempt p sum copies levels path bytes
task_only P other find t (ReadHeads look levels path bp) h k = heads_only P other t look levels path bp
task_only P other find t (ReadTree tree) h k = tree_only P other t tree
task_only P other find t (Attempt attempt p kids) h k = absurd (false≢true (sym k))
task_only P other find t (Settle p kids) h k = absurd (false≢true (sym k))

-- what asks for no places for a block, but for what writes one
abbrev pub WritesNone : Task → Type 0
WritesNone (Find a) = ⊥
WritesNone (WritePart attempt p sum copies levels path bytes) = ⊥
WritesNone (Attempt attempt p kids) = claims p.request.work ≡ true
WritesNone _ = Unit {0}

pub task_no_find : (t : Terms) (op : Task) → WritesNone op → AsksOnly NoFind (plan t op)
task_no_find t (Leaf a) h = (refl, λ v. tt)
task_no_find t (Find a) h = absurd h
task_no_find t (TakePlaces tree) h = (refl, λ v. tt)
task_no_find t (ReadCopies repair test len places) h =
    only-then NoFind (by_leaves (block_reading t.setting repair (good_by test) len places)) (λ a. Ends (Got a))
    (leaves_only NoFind (λ op k. k.1) t (block_reading t.setting repair (good_by test) len places)) (λ a. tt)
task_no_find t (WriteCopies bytes places) h =
    only-then NoFind (by_leaves (piece_writing t.setting bytes places)) (λ e. Ends (Wrote e))
    (leaves_only NoFind (λ op k. k.1) t (piece_writing t.setting bytes places)) (λ e. tt)
task_no_find t (WritePart attempt p sum copies levels path bytes) h = absurd h
task_no_find t (ReadHeads look levels path bp) h = heads_only NoFind (λ op k. k.1) t look levels path bp
task_no_find t (ReadTree tree) h = tree_only NoFind (λ op k. k.1) t tree
task_no_find t (Attempt attempt p kids) h =
    only-then NoFind (plan_kids attempt kids) _ (kids_only NoFind (λ op k. k.1) t (λ n q under. refl) attempt kids)
    (λ k. only-then NoFind (plan_own t attempt p p.request.work _) _ (own_claims t attempt p p.request.work _ h).no_find
    (λ own. tt))
task_no_find t (Settle p kids) h = settle_only_task NoFind (λ op k. k.1) t (λ n q under. refl) p kids

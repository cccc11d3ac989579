-- The plans of requests, run alone, give what they mean; so does each task's.
use Rattle.std.proofs.Common.{◌≡◌, ℕ, zero, suc, ◌+◌, List, [], ◌∷◌, map, Bool, true, false, Option, Some, None, option_map, Result, Ok, Err, refl, sym, ap, ◌∙◌}
use Rattle.zio_types.specs.declared.error.Errno.{Errno}
use Rattle.zio_types.specs.declared.request.Bits.{Bits}
use Rattle.zio_types.specs.Choices.{Choice}
use Rattle.zio_types.specs.Paths.{path_steps_max}
use Rattle.zio_types.specs.Places.{are_open}
use Rattle.zio_blkptr.specs.declared.pointer.Bp.{Bp}
use Rattle.zio_blkptr.specs.Pointers.{pointer_of}
use Rattle.zio_script.specs.declared.script.Work.{Work}
use Rattle.zio_script.specs.declared.script.Work.TheVariants.{Null, Read as WorkRead, Write, Free, Claim}
use Rattle.zio_script.specs.Bodies.{body_of}
use Rattle.zio_cksum.specs.Images.{Images}
use Rattle.zio_gang.specs.declared.tree.Tree.{Tree}
use Rattle.zio_gang.specs.Attempts.{Terms, Pending, Child, Own, Attempted, writing_of, placed_tree, own_found, own_claimed, own_work, read_of, free_of, closed_if, judged_own, attempt_with, insert_children, children_of, now_alone, reexecutions_max}
use Rattle.zio_gang.specs.Trees.{Walk, walk_tree, claim_visit, tree_places, free_tree, claim_tree, claim_pointer, claimed_found, claimed_if}
use Rattle.zio_gang.specs.Writes.{Placed, place_block, content_of}
use Rattle.zio_trace.specs.Families.{Forest, NoTrees, TreeOf, Grown, Rooted, rooted, attempt_forest, attempt_root}
use Rattle.zio_trace.specs.Plans.{TaskPlan, plan_write, plan_tree, own_read_by, own_stored, own_taken, plan_read, plan_free, plan_taken, plan_claim, plan_own, Kids, add_kid, plan_kids, bare, one_of, plan_root, add_settled, plan_left, plan_again, plan_settle, plan}
use Rattle.zio_trace.specs.Programs.{Done, behind, run}
use Rattle.zio_trace.specs.Tasks.{Task, Leaf, Find, ReadCopies, WriteCopies, WritePart, ReadHeads, ReadTree, TakePlaces, Attempt, Settle, AttemptedBy, SettledBy, OwnGot, One, Settled, got, stored, as_own, as_one, AllEnded, settle_left, settle_if, settle_root, means}
use Rattle.zio_trace.proofs.ProgramLemmas.{gives_then}
use Rattle.zio_trace.proofs.TaskLemmas.{no_more, ask_run, made_of, copies_run, piece_copies_run, write_part_run, heads_run, tree_run}

-- ---- a request's own work

found_is : (answer : Result (List ℕ) Errno) (images : Images) → ◌≡◌ {A = Done OwnGot} (record { value = own_read_by answer; asks = []; images = images }) (as_own (own_found answer images))
found_is (Ok bytes) images = refl
found_is (Err e) images = refl

placed_is : (pointer : Option Bp) (placed : Placed) → option_map (λ (bp : Bp). record { bp = bp; heads = placed.heads }) pointer ≡ placed_tree pointer placed
placed_is None placed = refl
placed_is (Some bp) placed = refl

read_run : (j : List Choice) (t : Terms) (block : Option Tree) (images : Images) → run (means j t) (plan_read block) images ≡ as_own (read_of t block images)
read_run j t None images = refl
read_run j t (Some tree) images = made_of j t (plan_tree tree) (λ v. own_read_by (got v)) images (means j t (ReadTree tree) images) (tree_run j t tree images) ∙ found_is _ _

free_run : (j : List Choice) (t : Terms) (block : Option Tree) (images : Images) → run (means j t) (plan_free block) images ≡ as_own (free_of t block images)
unfolding free_tree
free_run j t None images = refl
free_run j t (Some tree) images = refl

taken_is : (free : Bool) (tree : Tree) (images : Images) → ◌≡◌ {A = Done OwnGot} (record { value = own_taken free tree; asks = []; images = images }) (as_own (own_claimed (claimed_if free tree) images))
taken_is true tree images = refl
taken_is false tree images = refl

taken_run : (j : List Choice) (t : Terms) (errors : List (Option Errno)) (tree : Tree) (images : Images) → run (means j t) (plan_taken errors tree) images ≡ as_own (own_claimed (claimed_found t.used errors tree) images)
taken_run j t [] tree images = taken_is (are_open t.used (tree_places tree)) tree images
taken_run j t (e ∷ errors) tree images = refl

claim_run : (j : List Choice) (t : Terms) (pointer : Option Bp) (images : Images) → run (means j t) (plan_claim pointer) images ≡ as_own (own_claimed (claim_pointer t.setting t.used pointer images).tree (claim_pointer t.setting t.used pointer images).images)
claim_run j t None images = refl
claim_run j t (Some bp) images = let w : Walk = walk_tree (claim_visit t.setting) bp images in taken_run j t w.errors (record { bp = bp; heads = w.heads }) w.images

pub own_run : (j : List Choice) (t : Terms) (attempt : ℕ) (p : Pending) (work : Work) (pointers : List (Option Bp)) (images : Images) → run (means j t) (plan_own t attempt p work pointers) images ≡ as_own (own_work j t attempt p work pointers images)
unfolding claim_tree
own_run j t attempt p Null pointers images = refl
own_run j t attempt p (WorkRead name prio) pointers images = read_run j t p.block images
own_run j t attempt p (Write name sum copies prio body) pointers images =
    let content : List ℕ = content_of pointers (body_of body) in
    let placed : Placed = place_block j (writing_of t attempt p sum copies) content images in
    made_of j t (plan_write t attempt p sum copies path_steps_max [] content) (λ v. own_stored (stored v)) images _ (write_part_run j t attempt p sum copies path_steps_max [] content images)
    ∙ ap (λ (tree : Option Tree). record { value = record { error = placed.error; bytes = []; tree = tree; pointer = placed.pointer }; asks = placed.asks; images = placed.images }) (placed_is placed.pointer placed)
own_run j t attempt p (Free name) pointers images = free_run j t p.block images
own_run j t attempt p (Claim name pointer) pointers images = claim_run j t (pointer_of pointer) images

-- ---- an attempt

abbrev pub as_kids : Grown → Done Kids
as_kids g = record { value = record { returns = g.returns; ended = g.ended; again = g.again; left = g.left }; asks = g.asks; images = g.images }

pub kids_run : (j : List Choice) (t : Terms) (attempt : ℕ) (f : Forest) (images : Images) → run (means j t) (plan_kids attempt f) images ≡ as_kids (attempt_forest j t attempt f images)
kids_run j t attempt NoTrees images = refl
kids_run j t attempt (TreeOf p kids others) images =
    let r : Rooted = attempt_root j t attempt p kids images in
    let one : One = record { return = r.return; ended = r.ended; again = r.again; left = r.left } in
    ap (behind r.asks) (made_of j t (plan_kids attempt others) (λ o. add_kid one o) r.images _ (kids_run j t attempt others r.images))

-- what was asked and the images go past the judgement
closed_bare : (again : Bool) (p : Pending) (own : Own) (bits : Bits) (kept : List Child) → closed_if again p own bits kept ≡ record (closed_if again p (bare (as_own own).value) bits kept) { asks = own.asks; images = own.images }
closed_bare true p own bits kept = refl
closed_bare false p own bits kept = refl

root_run : (j : List Choice) (t : Terms) (attempt : ℕ) (p : Pending) (g : Grown) → behind g.asks (run (means j t) (plan_root t attempt p (as_kids g).value) g.images) ≡ as_one (rooted g (attempt_with j t attempt p g.returns g.images))
root_run j t attempt p g =
    let pointers : List (Option Bp) = map (λ (c : Child). c.pointer) (insert_children (children_of g.returns) p.kept) in
    let own : Own = own_work j t attempt p p.request.work pointers g.images in
    ap (behind g.asks)
    (made_of j t (plan_own t attempt p p.request.work pointers) (λ o. AttemptedBy (one_of (as_kids g).value (judged_own t p g.returns (bare o)))) g.images (as_own own) (own_run j t attempt p p.request.work pointers g.images))
    ∙ sym (ap (λ (one : Attempted). as_one (rooted g one)) (closed_bare _ p own _ _))

attempt_run : (j : List Choice) (t : Terms) (attempt : ℕ) (p : Pending) (kids : Forest) (images : Images) → run (means j t) (plan t (Attempt attempt p kids)) images ≡ means j t (Attempt attempt p kids) images
attempt_run j t attempt p kids images =
    let g : Grown = attempt_forest j t attempt kids images in
    gives_then (means j t) (plan_kids attempt kids) (λ k. plan_root t attempt p k) images (as_kids g) _ (kids_run j t attempt kids images) refl ∙ root_run j t attempt p g

-- ---- all attempts

abbrev as_all : AllEnded → Done Settled
as_all e = record { value = e.value; asks = e.asks; images = e.images }

abbrev one_in : Rooted → One
one_in r = record { return = r.return; ended = r.ended; again = r.again; left = r.left }

left_run : (j : List Choice) (t : Terms) (r : Rooted) (left : Forest) (again : Pending → Forest → TaskPlan Settled) (settle : Pending → Forest → Images → AllEnded)
    → ((p : Pending) (kids : Forest) (images : Images) → run (means j t) (again p kids) images ≡ as_all (settle p kids images))
    → behind r.asks (run (means j t) (plan_left (one_in r) left again) r.images) ≡ as_all (settle_left r left settle)
left_run j t r NoTrees again settle h = no_more r.asks _ r.images
left_run j t r (TreeOf p kids others) again settle h =
    ap (behind r.asks) (made_of j t (again p kids) (λ later. add_settled (one_in r) later) r.images (as_all (settle p kids r.images)) (h p kids r.images))

again_run : (j : List Choice) (t : Terms) (now : Bool) (r : Rooted) (again : Pending → Forest → TaskPlan Settled) (settle : Pending → Forest → Images → AllEnded)
    → ((p : Pending) (kids : Forest) (images : Images) → run (means j t) (again p kids) images ≡ as_all (settle p kids images))
    → behind r.asks (run (means j t) (plan_again now (one_in r) again) r.images) ≡ as_all (settle_if now r settle)
again_run j t true r again settle h = left_run j t r r.left again settle h
again_run j t false r again settle h = no_more r.asks _ r.images

settles_run : (more : ℕ) (j : List Choice) (t : Terms) (attempt : ℕ) (p : Pending) (kids : Forest) (images : Images) → run (means j t) (plan_settle more attempt p kids) images ≡ as_all (settle_root more j t attempt p kids images)
settles_run zero j t attempt p kids images = let r : Rooted = attempt_root j t attempt p kids images in no_more r.asks _ r.images
settles_run (suc more) j t attempt p kids images =
    let r : Rooted = attempt_root j t attempt p kids images in
    again_run j t (now_alone r.return.bits) r (plan_settle more (attempt + 1)) (settle_root more j t (attempt + 1)) (λ q ks now. settles_run more j t (attempt + 1) q ks now)

settle_run : (j : List Choice) (t : Terms) (p : Pending) (kids : Forest) (images : Images) → run (means j t) (plan t (Settle p kids)) images ≡ means j t (Settle p kids) images
settle_run j t p kids images = made_of j t (plan_settle reexecutions_max 0 p kids) (λ x. SettledBy x) images _ (settles_run reexecutions_max j t 0 p kids images)

-- ---- all

pub plan_run : (j : List Choice) (t : Terms) (task : Task) (images : Images) → run (means j t) (plan t task) images ≡ means j t task images
plan_run j t (Leaf act) images = ask_run j t (Leaf act) images
plan_run j t (Find a) images = refl
plan_run j t (ReadCopies repair test len places) images = copies_run j t repair test len places images
plan_run j t (WriteCopies bytes places) images = piece_copies_run j t bytes places images
plan_run j t (WritePart attempt p sum copies levels path bytes) images = write_part_run j t attempt p sum copies levels path bytes images
plan_run j t (ReadHeads look levels path bp) images = heads_run j t look levels path bp images
plan_run j t (ReadTree tree) images = tree_run j t tree images
plan_run j t (TakePlaces tree) images = refl
plan_run j t (Attempt attempt p kids) images = attempt_run j t attempt p kids images
plan_run j t (Settle p kids) images = settle_run j t p kids images

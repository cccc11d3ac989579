-- Each task's plan, run alone, gives what the task means.
use Rattle.std.proofs.Common.{◌≡◌, ℕ, zero, suc, ◌+◌, List, [], ◌∷◌, ◌++◌, length, Bool, true, false, nat_le, Option, Some, None, Ok, Err, refl, ap, ◌∙◌, append-nil}
use Rattle.zio_types.specs.declared.error.Errno.{Errno}
use Rattle.zio_types.specs.declared.error.Errno.TheVariants.{Cksum}
use Rattle.zio_types.specs.declared.place.Place.{Place}
use Rattle.zio_types.specs.Choices.{Ask, Choice}
use Rattle.zio_types.specs.Places.{sector_size}
use Rattle.zio_blkptr.specs.declared.pointer.Bp.{Bp}
use Rattle.zio_blkptr.specs.declared.pointer.SumKind.{SumKind}
use Rattle.zio_blkptr.specs.Pointers.{places_of}
use Rattle.zio_cksum.specs.Blocks.{Read, read_block, good_body}
use Rattle.zio_cksum.specs.Headers.{split_sizes, members_of}
use Rattle.zio_cksum.specs.Images.{Images}
use Rattle.zio_gang.specs.declared.tree.Tree.{Tree}
use Rattle.zio_gang.specs.Attempts.{Terms, Pending, writing_of}
use Rattle.zio_gang.specs.Trees.{Walk, walk, walk_members, walk_found, walk_read, walk_pointer, walk_kept, BodiesRead, add_body, unless_errors, read_bodies, bodies_unless, read_tree}
use Rattle.zio_gang.specs.Writes.{Writing, Placed, Members, chosen, body_ask, head_ask, cut, place_members, gang_with, gang_unless, body_with, without_place, place_part}
use Rattle.zio_trace.specs.CopyPrograms.{block_reading, piece_writing}
use Rattle.zio_trace.specs.Leaves.{LeafOp, Answer, on_leaf}
use Rattle.zio_trace.specs.Plans.{TaskPlan, by_leaves, Kin, add_kin, plan_members, plan_gang, plan_gang_unless, plan_body, plan_part, head_task, join_walked, under_head, plan_below, plan_found, plan_pointer, stopped, Bodies, add_got, plan_bodies, plan_after, plan}
use Rattle.zio_trace.specs.Programs.{Done, Program as ProgramOf, Ends, Asks, ◌>>=◌, ask, behind, run}
use Rattle.zio_trace.specs.Tasks.{Test, good_by, Look, ByKept, ByClaim, visit_of, Task, ReadCopies, WriteCopies, WritePart, ReadHeads, ReadTree, Walked, Value, Got, Wrote, StoredAs, WalkedBy, nowhere, got, stored, as_stored, as_walked, as_got, means}
use Rattle.zio_trace.proofs.CopyLemmas.{block_run, piece_run}
use Rattle.zio_trace.proofs.ProgramLemmas.{gives_then}

-- with nothing asked behind
pub no_more : {A : Type 0} (asks : List Ask) (value : A) (images : Images) → behind asks (record { value = value; asks = []; images = images }) ≡ record { value = value; asks = asks; images = images }
no_more asks value images = ap (λ (xs : List Ask). record { value = value; asks = xs; images = images }) (append-nil asks)

pub ask_run : (j : List Choice) (t : Terms) (task : Task) (images : Images) → run (means j t) (ask task) images ≡ means j t task images
ask_run j t task images = no_more (means j t task images).asks (means j t task images).value (means j t task images).images

-- what a value is made into
pub made_of : {A B : Type 0} (j : List Choice) (t : Terms) (p : TaskPlan A) (f : A → B) (images : Images) (d : Done A) → run (means j t) p images ≡ d → run (means j t) (p >>= λ a. Ends (f a)) images ≡ record { value = f d.value; asks = d.asks; images = d.images }
made_of j t p f images d h = gives_then (means j t) p (λ a. Ends (f a)) images d _ h refl ∙ no_more d.asks (f d.value) d.images

-- ---- copies

leaves_run : {A : Type 0} (j : List Choice) (t : Terms) (p : ProgramOf LeafOp Answer A) (images : Images) → run (means j t) (by_leaves p) images ≡ run (on_leaf t.setting) p images
leaves_run j t (Ends a) images = refl
leaves_run j t (Asks act more) images =
    let d : Done Answer = on_leaf t.setting act images in
    ap (behind d.asks) (leaves_run j t (more d.value) d.images)

pub copies_run : (j : List Choice) (t : Terms) (repair : Bool) (test : Test) (len : ℕ) (places : List Place) (images : Images) → run (means j t) (plan t (ReadCopies repair test len places)) images ≡ means j t (ReadCopies repair test len places) images
copies_run j t repair test len places images =
    made_of j t (by_leaves (block_reading t.setting repair (good_by test) len places)) (λ a. Got a) images _
    (leaves_run j t (block_reading t.setting repair (good_by test) len places) images ∙ block_run t.setting repair (good_by test) len places images)

pub piece_copies_run : (j : List Choice) (t : Terms) (bytes : List ℕ) (places : List Place) (images : Images) → run (means j t) (plan t (WriteCopies bytes places)) images ≡ means j t (WriteCopies bytes places) images
piece_copies_run j t bytes places images =
    made_of j t (by_leaves (piece_writing t.setting bytes places)) (λ e. Wrote e) images _
    (leaves_run j t (piece_writing t.setting bytes places) images ∙ piece_run t.setting bytes places images)

-- ---- a part that is written

abbrev as_kin : Members → Done Kin
as_kin m = record {
  value = record { errors = m.errors; pointers = m.pointers; heads = m.heads };
  asks = m.asks;
  images = m.images;
}

-- what is planned below is what is placed there
abbrev GivesBelow : List Choice → Terms → (List ℕ → List ℕ → TaskPlan Value) → (List ℕ → List ℕ → Images → Placed) → Type 0
GivesBelow j t below place = (path part : List ℕ) (images : Images) → run (means j t) (below path part) images ≡ as_stored (place path part images)

members_run : (j : List Choice) (t : Terms) (below : List ℕ → List ℕ → TaskPlan Value) (place : List ℕ → List ℕ → Images → Placed) → GivesBelow j t below place → (path : List ℕ) (n : ℕ) (bits : List (List ℕ)) (images : Images) → run (means j t) (plan_members below path n bits) images ≡ as_kin (place_members place path n bits images)
members_run j t below place h path n [] images = refl
members_run j t below place h path n (part ∷ bits) images =
    let m : Placed = place (path ++ n ∷ []) part images in
    gives_then (means j t) (below (path ++ n ∷ []) part) _ images (as_stored m) _ (h (path ++ n ∷ []) part images)
    (made_of j t (plan_members below path (n + 1) bits) (λ others. add_kin (stored (as_stored m).value) others) m.images _ (members_run j t below place h path (n + 1) bits m.images))

module _ (j : List Choice) (t : Terms) (attempt : ℕ) (p : Pending) (sum : SumKind) (copies : ℕ) (below : List ℕ → List ℕ → TaskPlan Value) (place : List ℕ → List ℕ → Images → Placed) (h : GivesBelow j t below place) (path bytes : List ℕ) (images : Images) where
  abbrev the_write : Writing
  the_write = writing_of t attempt p sum copies

  gang_run : (places : Option (List Place)) → behind (body_ask the_write path bytes ∷ head_ask the_write path ∷ []) (run (means j t) (plan_gang places the_write below path bytes) images) ≡ as_stored (gang_with places the_write place path bytes images)
  gang_run None = refl
  gang_run (Some places) =
      let m : Members = place_members place path 0 (cut (split_sizes (length bytes)) bytes) images in
      ap (behind (body_ask the_write path bytes ∷ head_ask the_write path ∷ []))
      (gives_then (means j t) (plan_members below path 0 (cut (split_sizes (length bytes)) bytes)) _ images (as_kin m) _ (members_run j t below place h path 0 (cut (split_sizes (length bytes)) bytes) images) refl
      ∙ no_more m.asks _ _)

  unless_run : (one : Bool) → behind (body_ask the_write path bytes ∷ []) (run (means j t) (plan_gang_unless one the_write below path bytes) images) ≡ as_stored (gang_unless one j the_write place path bytes images)
  unless_run true = refl
  unless_run false = gang_run (chosen j (head_ask the_write path))

  body_run : (places : Option (List Place)) → behind (body_ask the_write path bytes ∷ []) (run (means j t) (plan_body places the_write below path bytes) images) ≡ as_stored (body_with places j the_write place path bytes images)
  body_run None = unless_run (nat_le (length bytes) sector_size)
  body_run (Some places) = refl

  pub part_run : run (means j t) (plan_part the_write below path bytes) images ≡ as_stored (body_with (chosen j (body_ask the_write path bytes)) j the_write place path bytes images)
  part_run = body_run (chosen j (body_ask the_write path bytes))

pub write_part_run : (j : List Choice) (t : Terms) (attempt : ℕ) (p : Pending) (sum : SumKind) (copies levels : ℕ) (path bytes : List ℕ) (images : Images) → run (means j t) (plan t (WritePart attempt p sum copies levels path bytes)) images ≡ means j t (WritePart attempt p sum copies levels path bytes) images
unfolding place_part
write_part_run j t attempt p sum copies zero path bytes images =
    part_run j t attempt p sum copies (λ below part. Ends (StoredAs nowhere)) (λ below part now. without_place [] now) (λ below part now. refl) path bytes images
write_part_run j t attempt p sum copies (suc levels) path bytes images =
    part_run j t attempt p sum copies (λ below part. ask (WritePart attempt p sum copies levels below part)) (place_part levels j (writing_of t attempt p sum copies))
    (λ below part now. ask_run j t (WritePart attempt p sum copies levels below part) now) path bytes images

-- ---- headers that are read

abbrev as_walk : Walk → Done Walked
as_walk w = record { value = record { errors = w.errors; bodies = w.bodies; heads = w.heads }; asks = []; images = w.images }

below_run : (j : List Choice) (t : Terms) (look : Look) (levels : ℕ) (path : List ℕ) (n : ℕ) (ms : List Bp) (images : Images) → run (means j t) (plan_below (ReadHeads look levels) path n ms) images ≡ as_walk (walk_members (walk levels (visit_of t.setting look)) path n ms images)
below_run j t look levels path n [] images = refl
below_run j t look levels path n (m ∷ ms) images =
    let w : Walk = walk levels (visit_of t.setting look) (path ++ n ∷ []) m images in
    made_of j t (plan_below (ReadHeads look levels) path (n + 1) ms) (λ others. join_walked (as_walk w).value others) w.images _ (below_run j t look levels path (n + 1) ms w.images)

found_run : (j : List Choice) (t : Terms) (look : Look) (levels : ℕ) (path : List ℕ) (images : Images) (answer : Answer) → run (means j t) (plan_found (ReadHeads look levels) path answer) images ≡ as_walked (walk_found (walk levels (visit_of t.setting look)) path images answer)
found_run j t look levels path images (Err e) = refl
found_run j t look levels path images (Ok bytes) =
    made_of j t (plan_below (ReadHeads look levels) path 0 (members_of bytes)) (λ w. WalkedBy (under_head path bytes w)) images _ (below_run j t look levels path 0 (members_of bytes) images)

pointer_run : (j : List Choice) (t : Terms) (e : Option Errno) (gang : Bool) (bp : Bp) (follow : TaskPlan Value) (on : Images → Walk) (images : Images) → run (means j t) follow images ≡ as_walked (on images) → run (means j t) (plan_pointer e gang bp follow) images ≡ as_walked (walk_pointer e gang bp on images)
pointer_run j t (Some e) gang bp follow on images h = refl
pointer_run j t None false bp follow on images h = refl
pointer_run j t None true bp follow on images h = h

head_run : (j : List Choice) (t : Terms) (look : Look) (levels : ℕ) (path : List ℕ) (bp : Bp) (images : Images) → run (means j t) (ask (head_task look path bp) >>= λ v. plan_found (ReadHeads look levels) path (got v)) images ≡ as_walked (walk_read (walk levels (visit_of t.setting look)) path ((visit_of t.setting look).read_head path bp images))
head_run j t (ByKept heads) levels path bp images =
    let read : Read = (visit_of t.setting (ByKept heads)).read_head path bp images in found_run j t (ByKept heads) levels path read.images read.found
head_run j t ByClaim levels path bp images =
    let read : Read = (visit_of t.setting ByClaim).read_head path bp images in found_run j t ByClaim levels path read.images read.found

pub heads_run : (j : List Choice) (t : Terms) (look : Look) (levels : ℕ) (path : List ℕ) (bp : Bp) (images : Images) → run (means j t) (plan t (ReadHeads look levels path bp)) images ≡ means j t (ReadHeads look levels path bp) images
unfolding walk
heads_run j t look zero path bp images =
    pointer_run j t ((visit_of t.setting look).judge bp) bp.gang bp (Ends (WalkedBy (stopped Cksum))) _ images refl
heads_run j t look (suc levels) path bp images =
    pointer_run j t ((visit_of t.setting look).judge bp) bp.gang bp _ _ images (head_run j t look levels path bp images)

-- ---- a tree that is read

abbrev as_bodies : BodiesRead → Done Bodies
as_bodies b = record { value = record { errors = b.errors; bytes = b.bytes }; asks = []; images = b.images }

got_first : (answer : Answer) (b : BodiesRead) → ◌≡◌ {A = Done Bodies} (record { value = add_got answer (as_bodies b).value; asks = []; images = b.images }) (as_bodies (add_body answer b))
got_first (Ok bytes) b = refl
got_first (Err e) b = refl

bodies_run : (j : List Choice) (t : Terms) (bps : List Bp) (images : Images) → run (means j t) (plan_bodies bps) images ≡ as_bodies (read_bodies t.setting bps images)
bodies_run j t [] images = refl
bodies_run j t (bp ∷ bps) images =
    let read : Read = read_block t.setting true (good_body bp) images bp.size (places_of bp) in
    let b : BodiesRead = read_bodies t.setting bps read.images in
    made_of j t (plan_bodies bps) (λ others. add_got read.found others) read.images (as_bodies b) (bodies_run j t bps read.images) ∙ got_first read.found b

after_run : (j : List Choice) (t : Terms) (errors : List (Option Errno)) (w : Walk) → run (means j t) (plan_after errors w.bodies) w.images ≡ as_got (bodies_unless errors t.setting w)
after_run j t [] w = made_of j t (plan_bodies w.bodies) (λ b. Got (unless_errors b.errors b.bytes)) w.images _ (bodies_run j t w.bodies w.images)
after_run j t (e ∷ errors) w = refl

pub tree_run : (j : List Choice) (t : Terms) (tree : Tree) (images : Images) → run (means j t) (plan t (ReadTree tree)) images ≡ means j t (ReadTree tree) images
unfolding read_tree
tree_run j t tree images = let w : Walk = walk_kept t.setting tree images in after_run j t w.errors w

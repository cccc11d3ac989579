-- How many places of blocks a round frees, and that these blocks are whole.
use Rattle.std.proofs.Common.{◌≡◌, ℕ, ◌+◌, ◌≤◌, List, [], ◌∷◌, ◌++◌, refl, ap, ◌∙◌, subst, arith}
use Rattle.std.specs.Prelude.{IfSome, Option, Some, None, option_to_list}
use Rattle.std.specs.List.{AllByRecursion, flat_map}
use Rattle.std.proofs.lemmas.Grind.{flat_map-append}
use Rattle.std.proofs.lemmas.List.Folds.{flat_map-map}
use Rattle.zio_types.specs.declared.error.Errno.{Errno}
use Rattle.zio_types.specs.declared.place.Place.{Place}
use Rattle.zio_cksum.proofs.AllLemmas.{all_append, all_weaker}
use Rattle.zio_script.specs.declared.script.Request.{Request}
use Rattle.zio_script.specs.declared.script.Work.{Work}
use Rattle.zio_script.specs.declared.script.Work.TheVariants.{Null, Read, Write, Free, Claim}
use Rattle.zio_disks.specs.Whole.{IsWholeTree}
use Rattle.zio_gang.specs.declared.tree.Tree.{Tree}
use Rattle.zio_gang.specs.Attempts.{Pending}
use Rattle.zio_gang.specs.Trees.{tree_places}
use Rattle.zio_places.specs.Tables.{total}
use Rattle.zio_places.proofs.PlaceLemmas.{total-append}
use Rattle.zio_course.specs.Runners.{freed_by, joined_trees}
use Rattle.zio_plain.specs.declared.judge.Fate.{Fate}
use Rattle.zio_plain.specs.declared.judge.Fate.TheVariants.{Ends, Again}
use Rattle.zio_plain.specs.declared.waiting.Waiting.{Waiting}
use Rattle.zio_plain.specs.Judgments.{again_of, freed_block}
use Rattle.zio_plain.specs.Passes.{AreChained, Fated, IsFated, IsFateOf, all_freed, freed_in, freed_of, freed_unless, left_in, waitings_in}
use Rattle.zio_plain.specs.Posts.{IsSound}
use Rattle.zio_plain.specs.Settlings.{IsTreeRun, TreeRun, freed_run, requests_run, trees_in}
use Rattle.zio_plain.specs.Waits.{pending_of}
use Rattle.zio_plain.proofs.OwnerLemmas.{joined_runs}
use Rattle.zio_plain.proofs.SettleLemmas.{left_can}

-- the places that a free by the request gives back
abbrev pub to_free : Waiting → List Place
to_free w = freed_by w.request.work w.block

abbrev pub places_in : List Tree → List Place
places_in trees = flat_map tree_places trees

pub places_append : (xs ys : List Tree) → places_in (xs ++ ys) ≡ places_in xs ++ places_in ys
places_append xs ys = flat_map-append tree_places xs ys

-- ---- one request

pub block_freed : (work : Work) (block : Option Tree) → places_in (option_to_list (freed_block work block)) ≡ freed_by work block
block_freed Null block = refl
block_freed (Read name prio) block = refl
block_freed (Write name sum copies prio body) block = refl
block_freed (Free name) block = refl
block_freed (Claim name pointer) block = refl

pub freed_again : (w v : Waiting) → v.request ≡ w.request → v.block ≡ w.block → to_free v ≡ to_free w
freed_again w v request block = ap (λ (r : Request). freed_by r.work v.block) request ∙ ap (freed_by w.request.work) block

-- ---- how many

abbrev Weigh : Type 0
Weigh = Place → ℕ

freed_most : (f : Weigh) (w : Waiting) (error : Option Errno) → total f (places_in (freed_unless error (freed_block w.request.work w.block))) ≤ total f (to_free w)
freed_most f w None = let e = ap (total f) (block_freed w.request.work w.block) in omega arith
freed_most f w (Some e) = omega arith

pass_most : (f : Weigh) (fs : List Fated) → AllByRecursion IsFated fs → total f (places_in (freed_in fs)) + total f (flat_map to_free (left_in fs)) ≤ total f (flat_map to_free (waitings_in fs))
pass_most f [] each = omega arith
pass_most f (x ∷ fs) each =
    let rest = pass_most f fs each.1 in
    let a = ap (total f) (places_append (freed_of x.waiting x.fate) (freed_in fs)) ∙ total-append f (places_in (freed_of x.waiting x.fate)) (places_in (freed_in fs)) in
    let b = ap (total f) (flat_map-append to_free (again_of x.fate) (left_in fs)) ∙ total-append f (flat_map to_free (again_of x.fate)) (flat_map to_free (left_in fs)) in
    let c = total-append f (to_free x.waiting) (flat_map to_free (waitings_in fs)) in
    let mine = one x.fate each.0.is in omega arith
  where
    one : (fate : Fate) → IsFateOf x.waiting each.0.kids fate → total f (places_in (freed_of x.waiting fate)) + total f (flat_map to_free (again_of fate)) ≤ total f (to_free x.waiting)
    one (Ends e) is = let h = freed_most f x.waiting e.error in omega arith
    one (Again v) is =
        let e = ap (total f) (freed_again x.waiting v is.request is.block) in
        let n = total-append f (to_free v) [] in omega arith

chain_most : (f : Weigh) (tree : List Waiting) (passes : List (List Fated)) (left : List Waiting) → AreChained tree passes left → total f (places_in (all_freed passes)) ≤ total f (flat_map to_free tree)
chain_most f tree [] left h = omega arith
chain_most f tree (fs ∷ passes) left h =
    let a = ap (total f) (places_append (freed_in fs) (all_freed passes)) ∙ total-append f (places_in (freed_in fs)) (places_in (all_freed passes)) in
    let b = pass_most f fs h.0.each in
    let c = chain_most f (left_in fs) passes left h.1 in
    let d = ap (λ (ws : List Waiting). total f (flat_map to_free ws)) h.0.whole in omega arith

runs_most : (f : Weigh) (runs : List TreeRun) → AllByRecursion IsTreeRun runs → total f (places_in (freed_run runs)) ≤ total f (flat_map to_free (requests_run runs))
runs_most f [] each = omega arith
runs_most f (r ∷ runs) each =
    let a = ap (total f) (places_append (all_freed r.passes) (freed_run runs)) ∙ total-append f (places_in (all_freed r.passes)) (places_in (freed_run runs)) in
    let b = chain_most f r.tree r.passes r.left each.0.chained in
    let c = runs_most f runs each.1 in
    let d = ap (total f) (flat_map-append to_free r.tree (requests_run runs)) ∙ total-append f (flat_map to_free r.tree) (flat_map to_free (requests_run runs)) in omega arith

-- what frees of trees name, by their requests
pub named_frees : (trees : List (List Pending)) (runs : List TreeRun) → trees ≡ trees_in runs → flat_map (λ (p : Pending). freed_by p.request.work p.block) (joined_trees trees) ≡ flat_map to_free (requests_run runs)
named_frees trees runs whole =
    ap (flat_map (λ (p : Pending). freed_by p.request.work p.block)) (ap joined_trees whole ∙ joined_runs runs)
    ∙ flat_map-map (λ (p : Pending). freed_by p.request.work p.block) pending_of (requests_run runs)

-- no place is freed more often than the trees name it
pub freed_fewer : (trees : List (List Pending)) (runs : List TreeRun) → trees ≡ trees_in runs → AllByRecursion IsTreeRun runs → (f : Place → ℕ)
    → total f (places_in (freed_run runs)) ≤ total f (flat_map (λ (p : Pending). freed_by p.request.work p.block) (joined_trees trees))
freed_fewer trees runs whole each f =
    let a = runs_most f runs each in
    let b = ap (total f) (named_frees trees runs whole) in omega arith

-- ---- what was freed is whole

abbrev AreWhole : List Waiting → Type 0
AreWhole ws = AllByRecursion (λ (w : Waiting). IfSome w.block IsWholeTree) ws

whole_sound : (ws : List Waiting) → AllByRecursion (IsSound IsWholeTree) ws → AreWhole ws
whole_sound ws h = all_weaker (IsSound IsWholeTree) (λ (w : Waiting). IfSome w.block IsWholeTree) ws (λ w k. k.fit) h

block_whole : (work : Work) (block : Option Tree) → IfSome block IsWholeTree → AllByRecursion IsWholeTree (option_to_list (freed_block work block))
block_whole Null block h = tt
block_whole (Read name prio) block h = tt
block_whole (Write name sum copies prio body) block h = tt
block_whole (Free name) None h = tt
block_whole (Free name) (Some tree) h = (h, tt)
block_whole (Claim name pointer) block h = tt

pass_whole : (fs : List Fated) → AreWhole (waitings_in fs) → AllByRecursion IsWholeTree (freed_in fs)
pass_whole [] h = tt
pass_whole (x ∷ fs) h = all_append IsWholeTree (freed_of x.waiting x.fate) (freed_in fs) (one x.fate) (pass_whole fs h.1)
  where
    unless : (error : Option Errno) → AllByRecursion IsWholeTree (freed_unless error (freed_block x.waiting.request.work x.waiting.block))
    unless None = block_whole x.waiting.request.work x.waiting.block h.0
    unless (Some e) = tt

    one : (fate : Fate) → AllByRecursion IsWholeTree (freed_of x.waiting fate)
    one (Ends e) = unless e.error
    one (Again v) = tt

chain_whole : (tree : List Waiting) (passes : List (List Fated)) (left : List Waiting) → AreChained tree passes left → AreWhole tree → AllByRecursion IsWholeTree (all_freed passes)
chain_whole tree [] left h whole = tt
chain_whole tree (fs ∷ passes) left h whole =
    let here : AreWhole (waitings_in fs) = subst AreWhole h.0.whole whole in
    all_append IsWholeTree (freed_in fs) (all_freed passes) (pass_whole fs here)
    (chain_whole (left_in fs) passes left h.1 (left_can (λ (w : Waiting). w.block) (λ w v e. e) (λ block. IfSome block IsWholeTree) fs h.0.each here))

pub freed_whole : (runs : List TreeRun) → AllByRecursion IsTreeRun runs → AllByRecursion IsWholeTree (freed_run runs)
freed_whole [] each = tt
freed_whole (r ∷ runs) each =
    all_append IsWholeTree (all_freed r.passes) (freed_run runs) (chain_whole r.tree r.passes r.left each.0.chained (whole_sound r.tree each.0.one.sound)) (freed_whole runs each.1)

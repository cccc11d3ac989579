-- A round that the engine may be given is sound.
use Rattle.std.proofs.Common.{◌≡◌, ℕ, zero, suc, List, [], ◌∷◌, ◌++◌, map, slice_get, Option, Some, None, IfSome, IsTrue, refl, sym, ap, ◌∙◌, subst}
use Rattle.std.specs.List.{AllByRecursion, flat_map}
use Rattle.std.proofs.lemmas.List.{append_assoc}
use Rattle.zio_types.specs.declared.place.Place.{Place}
use Rattle.zio_types.specs.declared.place.Top.{Top}
use Rattle.zio_types.specs.Places.{is_inside}
use Rattle.zio_blkptr.specs.declared.pointer.Bp.{Bp}
use Rattle.zio_blkptr.specs.Pointers.{valid}
use Rattle.zio_script.specs.declared.script.Failmode.{Failmode}
use Rattle.zio_cksum.specs.Headers.{members_of}
use Rattle.zio_cksum.proofs.AllLemmas.{all_append}
use Rattle.zio_gang.specs.declared.tree.Head.{Head}
use Rattle.zio_gang.specs.declared.tree.Tree.{Tree}
use Rattle.zio_gang.specs.Attempts.{Pending}
use Rattle.zio_gang.specs.Trees.{sizes_of, tree_pointers}
use Rattle.zio_trace.specs.Families.{Forest, NoTrees, TreeOf, flat}
use Rattle.zio_trace.specs.Rounds.{trees_in as trees_of}
use Rattle.zio_trace.specs.Separate.{LeavesHold, LeavesOnce}
use Rattle.zio_trace.specs.SoundRounds.{IsSoundRound, LeavesDiffer}
use Rattle.zio_disks.specs.Trees.{HasSectors}
use Rattle.zio_disks.specs.Whole.{IsWholeTree}
use Rattle.zio_disks.proofs.ClaimLemmas.{members_valid}
use Rattle.zio_course.specs.Runners.{AreRunnable, Standing, joined_trees, terms_at}
use Rattle.zio_sound.proofs.Linked.{linked_families}
use Rattle.zio_sound.proofs.SoundRounds.{runnable_once, runnable_sound}
use Rattle.zio_exchange.specs.Waits.{pendings}
use Rattle.zio_exchange.specs.declared.waiting.UnfinishedRequest.{UnfinishedRequest}
use Rattle.zio_graph.specs.EngineTrees.{AreSound}
use Rattle.zio_graph.specs.EngineTrees.{IsEngineTree}
use Rattle.zio_graph.specs.Jobs.{IsSoundJob, size_at}
use Rattle.zio_graph.proofs.Forests.{AreEngineForest, forest_of}

-- ---- pointers of whole blocks

abbrev HasValidPointers : Tree → Type 0
HasValidPointers tree = AllByRecursion (λ (bp : Bp). IsTrue (valid bp)) (tree_pointers tree)

heads_valid : (heads : List Head) → AllByRecursion (λ (bp : Bp). IsTrue (valid bp)) (flat_map (λ (h : Head). members_of h.bytes) heads)
heads_valid [] = tt
heads_valid (h ∷ heads) =
    all_append (λ (bp : Bp). IsTrue (valid bp)) (members_of h.bytes) (flat_map (λ (x : Head). members_of x.bytes) heads) (members_valid h.bytes) (heads_valid heads)

pub whole_pointers : (tree : Tree) → IsWholeTree tree → HasValidPointers tree
whole_pointers tree whole = (whole.0, heads_valid tree.heads)

block_pointers : (block : Option Tree) → IfSome block IsWholeTree → IfSome block HasValidPointers
block_pointers None h = tt
block_pointers (Some tree) h = whole_pointers tree h

forest_pointers : (f : Forest) → AreSound f → AllByRecursion (λ (p : Pending). IfSome p.block HasValidPointers) (flat f)
forest_pointers NoTrees h = tt
forest_pointers (TreeOf p kids others) h =
    all_append (λ (q : Pending). IfSome q.block HasValidPointers) (flat kids) (p ∷ flat others) (forest_pointers kids h.1)
    (block_pointers p.block h.0.whole, forest_pointers others h.2)

-- ---- leaves

nth_sectors : (bytes : List ℕ) (tops : List Top) (i : ℕ) → AllByRecursion (HasSectors bytes) tops → IfSome (slice_get tops i) (HasSectors bytes)
nth_sectors bytes [] i h = tt
nth_sectors bytes (top ∷ tops) zero h = h.0
nth_sectors bytes (top ∷ tops) (suc i) h = nth_sectors bytes tops i h.1

leaves_hold : (bytes : List ℕ) (tops : List Top) → AllByRecursion (HasSectors bytes) tops → LeavesHold (size_at bytes) tops
leaves_hold bytes tops h i = nth_sectors bytes tops i h

-- ---- all together

pub joined_flat : (f : Forest) → joined_trees (trees_of f) ≡ flat f
joined_flat NoTrees = refl
joined_flat (TreeOf p kids others) =
    append_assoc (flat kids) (p ∷ []) (joined_trees (trees_of others))
    ∙ ap (λ (ps : List Pending). flat kids ++ p ∷ ps) (joined_flat others)

pub sound_round : (s : Standing) (failmode : Failmode) (round point : ℕ) (bytes : List ℕ) (trees : List (List UnfinishedRequest)) (x : AreEngineForest None trees)
    → AreRunnable s (map pendings trees) → LeavesOnce s.tops → LeavesDiffer s.tops → AllByRecursion (HasSectors bytes) s.tops
    → AllByRecursion (λ (p : Place). IsTrue (is_inside (sizes_of s.tops) p)) s.live
    → IsSoundRound (terms_at s failmode round point) (size_at bytes) x.forest
sound_round s failmode round point bytes trees x runs once differ bears inside =
    runnable_sound s failmode round point (size_at bytes) (map pendings trees) x.forest x.lists
    (linked_families x.forest x.linked (runnable_once s (map pendings trees) x.forest x.lists runs)) runs once differ
    (leaves_hold bytes s.tops bears)
    (subst (λ (ps : List Pending). AllByRecursion (λ (p : Pending). IfSome p.block HasValidPointers) ps)
    (sym (joined_flat x.forest) ∙ ap joined_trees x.lists) (forest_pointers x.forest x.sound))
    inside

pub sound_job : (s : Standing) (failmode : Failmode) (round point : ℕ) (bytes : List ℕ) (trees : List (List UnfinishedRequest)) → AllByRecursion IsEngineTree trees
    → AreRunnable s (map pendings trees) → LeavesOnce s.tops → LeavesDiffer s.tops → AllByRecursion (HasSectors bytes) s.tops
    → AllByRecursion (λ (p : Place). IsTrue (is_inside (sizes_of s.tops) p)) s.live
    → IsSoundJob (terms_at s failmode round point) (size_at bytes) trees
sound_job s failmode round point bytes trees each runs once differ bears inside =
    let x : AreEngineForest None trees = forest_of None trees each runs.under in record {
      forest = x.forest;
      are = x.are;
      lists = x.lists;
      linked = x.linked;
      sound = x.sound;
      round = sound_round s failmode round point bytes trees x runs once differ bears inside;
    }

-- What is left of a round's trees are trees as the engine keeps them.
use Rattle.std.proofs.Common.{◌≡◌, ℕ, ◌+◌, ◌^◌, ◌<◌, ◌≤◌, List, [], ◌∷◌, length, map, Option, Some, None, inl, inr, ap, sym, ◌∙◌, subst}
use Rattle.std.specs.Prelude.{IfSome, is_some}
use Rattle.std.specs.List.{AllByRecursion}
use Rattle.std.proofs.lemmas.List.{length-map}
use Rattle.zio_blkptr.specs.declared.pointer.Bp.{Bp}
use Rattle.zio_blkptr.specs.declared.pointer.TheConstants.{BLOCK_SIZE_MAX}
use Rattle.zio_blkptr.specs.Pointers.{FitsTypes}
use Rattle.zio_script.specs.Accepted.{IsInRange}
use Rattle.zio_script.specs.Requests.{needs_block}
use Rattle.zio_script.specs.Whys.{size_with}
use Rattle.zio_cksum.proofs.AllLemmas.{all_append, all_map, all_weaker}
use Rattle.zio_gang.specs.declared.tree.Tree.{Tree}
use Rattle.zio_gang.specs.Attempts.{Child, Pending}
use Rattle.zio_gang.specs.Pointers.{IsNoneOrValid}
use Rattle.zio_trace.specs.Families.{Forest, NoTrees, TreeOf, flat}
use Rattle.zio_disks.specs.Whole.{IsWholeTree}
use Rattle.zio_course.specs.Runners.{AreRestsOf, IsRestOf, IsSamePending, joined_trees}
use Rattle.zio_children.specs.RequestKids.{child_of}
use Rattle.zio_sound.specs.Linked.{AreLinked}
use Rattle.zio_exchange.specs.Waits.{pending_of, pendings}
use Rattle.zio_exchange.specs.Wholes.{IsWhole, Shape, shape_of, shapes, trees_in}
use Rattle.zio_exchange.specs.declared.waiting.UnfinishedRequest.{UnfinishedRequest}
use Rattle.zio_exchange.proofs.ForestLemmas.{one_forest}
use Rattle.zio_exchange.proofs.WholeLemmas.{OnlyTree, only_tree}
use Rattle.zio_nodes.proofs.TreeAtLemmas.{all_split}
use Rattle.zio_graph.specs.EngineTrees.{AreSound, HasThree, IsEngineTree, IsSoundPending, IsWithinLimits}
use Rattle.zio_graph.proofs.Lefts.{IsLinkedForest}
use Rattle.zio_graph.proofs.OwnBlocks.{MaySpell}
use Rattle.zio_graph.proofs.RoundBlocks.{KeepsSpelled}

-- ---- what stays of a request

-- it is in its ranges, and its block is there where it is to be, and is whole
pub record IsSoundRequest (p : Pending) : Type 0 where
  pub range : IsInRange p.request
  pub some : 1 ≤ p.birth
  pub born : p.birth < 2 ^ 32
  pub block_is : is_some p.block ≡ needs_block p.request.work
  pub whole : IfSome p.block IsWholeTree
  pub three : IfSome p.block (λ (tree : Tree). HasThree tree.bp)

still_sound : (p q : Pending) → IsSamePending p q → IsSoundRequest p → IsSoundRequest q
still_sound p q same h =
    let is : record { request = q.request; birth = q.birth; block = q.block; kept = p.kept } ≡ p =
    (λ i. record { request = same.request i; birth = same.birth i; block = same.block i; kept = p.kept }) in
    let k : IsSoundRequest
    (record { request = q.request; birth = q.birth; block = q.block; kept = p.kept }) = subst IsSoundRequest (sym is) h in
    record { range = k.range; some = k.some; born = k.born; block_is = k.block_is; whole = k.whole; three = k.three }

pub requests_sound : (f : Forest) → AreSound f → AllByRecursion IsSoundRequest (flat f)
requests_sound NoTrees h = tt
requests_sound (TreeOf p kids others) h =
    all_append IsSoundRequest (flat kids) (p ∷ flat others) (requests_sound kids h.1) (
      record {
        range = h.0.range;
        some = h.0.some;
        born = h.0.born;
        block_is = h.0.block_is;
        whole = h.0.whole;
        three = h.0.three;
      },
      requests_sound others h.2,
    )

-- ---- of rests

rest_sound : (ps left : List Pending) → IsRestOf ps left → AllByRecursion IsSoundRequest ps → AllByRecursion IsSoundRequest left
rest_sound [] left h all = absurd h
rest_sound (p ∷ []) [] h all = absurd h
rest_sound (p ∷ []) (q ∷ qs) h all = (still_sound p q h.0 all.0, subst (AllByRecursion IsSoundRequest) (sym h.1) tt)
rest_sound (p ∷ r ∷ ps) left (inr h) all = rest_sound (r ∷ ps) left h all.1
rest_sound (p ∷ r ∷ ps) [] (inl h) all = absurd h
rest_sound (p ∷ r ∷ ps) (q ∷ qs) (inl h) all = (still_sound p q h.0 all.0, rest_sound (r ∷ ps) qs h.1 all.1)

pub rests_sound : (trees left : List (List Pending)) → AreRestsOf trees left → AllByRecursion IsSoundRequest (joined_trees trees)
    → AllByRecursion (AllByRecursion IsSoundRequest) left
rests_sound [] [] h all = tt
rests_sound [] (l ∷ left) h all = absurd h
rests_sound (tree ∷ trees) [] h all = tt
rests_sound (tree ∷ trees) (l ∷ left) (inl h) all =
    let both = all_split IsSoundRequest tree (joined_trees trees) all in
    (rest_sound tree l h.0 both.0, rests_sound trees left h.1 both.1)
rests_sound (tree ∷ trees) (l ∷ left) (inr h) all =
    rests_sound trees (l ∷ left) h (all_split IsSoundRequest tree (joined_trees trees) all).1

-- ---- one tree

types_of : (pointer : Option Bp) → MaySpell pointer → IfSome pointer FitsTypes
types_of None h = tt
types_of (Some bp) h = h.types

one_sound : (w : UnfinishedRequest) → IsSoundRequest (pending_of w) → IsWithinLimits w → KeepsSpelled (pending_of w)
    → IsSoundPending w.unfinished (pending_of w)
one_sound w h k spelled = record {
  range = h.range;
  some = h.some;
  born = h.born;
  block_is = h.block_is;
  whole = h.whole;
  three = h.three;
  alone = λ childless. ap (λ (n : ℕ). w.unfinished + n) (length-map w.kept child_of) ∙ k.alone childless;
  size = subst (λ (n : ℕ). size_with (w.unfinished + n) w.request.work ≤ BLOCK_SIZE_MAX)
      (sym (length-map w.kept child_of)) k.size;
  pointers = all_map (λ (c : Child). IsNoneOrValid c.pointer) child_of w.kept k.pointers;
  types = all_weaker (λ (c : Child). MaySpell c.pointer) (λ (c : Child). IfSome c.pointer FitsTypes) (pending_of w).kept
      (λ c h. types_of c.pointer h) spelled;
}

list_sound : (ws : List UnfinishedRequest) → AllByRecursion IsSoundRequest (pendings ws) → AllByRecursion IsWithinLimits ws
    → AllByRecursion KeepsSpelled (pendings ws) → AllByRecursion (λ (w : UnfinishedRequest). IsSoundPending w.unfinished (pending_of w)) ws
list_sound [] h k spelled = tt
list_sound (w ∷ ws) h k spelled = (one_sound w h.0 k.0 spelled.0, list_sound ws h.1 k.1 spelled.1)

shapes_sound : (f : Forest) → AllByRecursion (λ (s : Shape). IsSoundPending s.unfinished s.pending) (shapes f) → AreSound f
shapes_sound NoTrees h = tt
shapes_sound (TreeOf p kids others) h =
    let both = all_split (λ (s : Shape). IsSoundPending s.unfinished s.pending) (shapes kids)
    (record { pending = p; unfinished = trees_in kids } ∷ shapes others) h in
    (both.1.0, shapes_sound kids both.0, shapes_sound others both.1.1)

engine_tree : (ws : List UnfinishedRequest) → IsWhole ws → IsLinkedForest ws → AllByRecursion IsSoundRequest (pendings ws)
    → AllByRecursion IsWithinLimits ws → AllByRecursion KeepsSpelled (pendings ws) → IsEngineTree ws
engine_tree ws whole (f, is, linked) requests limits spelled =
    let tree : OnlyTree ws = only_tree ws whole in
    let same : f ≡ TreeOf tree.root tree.kids NoTrees = one_forest ws f (TreeOf tree.root tree.kids NoTrees) is tree.is in
    let stands : AreLinked None (TreeOf tree.root tree.kids NoTrees) = subst (AreLinked None) same linked in
    record {
      root = tree.root;
      kids = tree.kids;
      is = tree.is;
      linked = stands.1;
      sound = shapes_sound (TreeOf tree.root tree.kids NoTrees)
          (subst (AllByRecursion (λ (s : Shape). IsSoundPending s.unfinished s.pending)) tree.is
          (all_map (λ (s : Shape). IsSoundPending s.unfinished s.pending) shape_of ws (list_sound ws requests limits spelled)));
    }

-- ---- all trees

pub engine_trees : (left : List (List UnfinishedRequest)) → AllByRecursion IsWhole left → AllByRecursion IsLinkedForest left
    → AllByRecursion (AllByRecursion IsSoundRequest) (map pendings left) → AllByRecursion (AllByRecursion IsWithinLimits) left
    → AllByRecursion (AllByRecursion KeepsSpelled) (map pendings left) → AllByRecursion IsEngineTree left
engine_trees [] whole linked requests limits spelled = tt
engine_trees (ws ∷ left) whole linked requests limits spelled = (
  engine_tree ws whole.0 linked.0 requests.0 limits.0 spelled.0,
  engine_trees left whole.1 linked.1 requests.1 limits.1 spelled.1,
)

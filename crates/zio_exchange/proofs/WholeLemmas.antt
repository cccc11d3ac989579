-- Whole trees: their roots, and trees that stand one after another.
use Rattle.std.proofs.Common.{◌≡◌, ℕ, suc, List, [], ◌∷◌, ◌++◌, length, map, Option, Some, option_map, refl, ap, ◌∙◌, subst, append_assoc}
use Rattle.std.specs.List.{AllByRecursion}
use Rattle.std.proofs.lemmas.List.{map-append}
use Rattle.zio_gang.specs.Attempts.{Pending}
use Rattle.zio_trace.specs.Families.{Forest, NoTrees, TreeOf, flat}
use Rattle.zio_children.specs.RequestKids.{RiseFrom, root_numbers}
use Rattle.zio_exchange.specs.declared.waiting.UnfinishedRequest.{UnfinishedRequest}
use Rattle.zio_exchange.specs.Waits.{pending_of, pendings}
use Rattle.zio_exchange.specs.Wholes.{AreOver, AreTrees, IsForestOf, IsTreeOf, IsWhole, RiseEach, Shape, joined, number_or, root_number, root_of, roots_in, shape_of, shapes, trees_in}
use Rattle.zio_exchange.proofs.ForestLemmas.{forest_flat, one_tree}

-- ---- the root

pub record Cut {X Y : Type 0} (f : X → Y) (ws : List X) (xs ys : List Y) : Type 0 where
  pub front : List X
  pub back : List X
  pub is : ws ≡ front ++ back
  pub of_front : map f front ≡ xs
  pub of_back : map f back ≡ ys

pub cut_map : {X Y : Type 0} (f : X → Y) (ws : List X) (xs ys : List Y) → map f ws ≡ xs ++ ys → Cut f ws xs ys
cut_map f ws [] ys e = record { front = []; back = ws; is = refl; of_front = refl; of_back = e }
cut_map f [] (x ∷ xs) ys e = absurd (cc)
cut_map {X} {Y} f (w ∷ ws) (x ∷ xs) ys e =
    let first : f w ≡ x = cc in
    let rest : map f ws ≡ xs ++ ys = cc in
    let c : Cut f ws xs ys = cut_map f ws xs ys rest in
    record {
      front = w ∷ c.front;
      back = c.back;
      is = ap (λ (vs : List X). w ∷ vs) c.is;
      of_front = (λ i. first i ∷ c.of_front i);
      of_back = c.of_back;
    }

-- a tree has its root behind the trees under it
pub record Rooted (ws : List UnfinishedRequest) (p : Pending) (kids : Forest) : Type 0 where
  pub front : List UnfinishedRequest
  pub root : UnfinishedRequest
  pub is : ws ≡ front ++ root ∷ []
  pub seen : pending_of root ≡ p
  pub unfinished : root.unfinished ≡ trees_in kids
  pub under : IsForestOf front kids

rooted_by : (ws front back : List UnfinishedRequest) (p : Pending) (kids : Forest) → ws ≡ front ++ back → IsForestOf front kids
    → map shape_of back ≡ record { pending = p; unfinished = trees_in kids } ∷ [] → Rooted ws p kids
rooted_by ws front [] p kids is under e = absurd (cc)
rooted_by ws front (w ∷ v ∷ vs) p kids is under e = absurd (cc)
rooted_by ws front (w ∷ []) p kids is under e =
    let s : shape_of w ≡ record { pending = p; unfinished = trees_in kids } = cc in
    record {
      front = front;
      root = w;
      is = is;
      seen = ap (λ (x : Shape). x.pending) s;
      unfinished = ap (λ (x : Shape). x.unfinished) s;
      under = under;
    }

pub rooted : (ws : List UnfinishedRequest) (p : Pending) (kids : Forest) → IsTreeOf ws p kids → Rooted ws p kids
rooted ws p kids h =
    let c : Cut shape_of ws (shapes kids) (record { pending = p; unfinished = trees_in kids } ∷ []) =
    cut_map shape_of ws (shapes kids) (record { pending = p; unfinished = trees_in kids } ∷ []) h in
    rooted_by ws c.front c.back p kids c.is c.of_front c.of_back

pub root_last : (front : List UnfinishedRequest) (w : UnfinishedRequest) → root_of (front ++ w ∷ []) ≡ Some w
root_last [] w = refl
root_last (v ∷ []) w = refl
root_last (v ∷ u ∷ vs) w = root_last (u ∷ vs) w

pub root_there : (ws : List UnfinishedRequest) (p : Pending) (kids : Forest) (r : Rooted ws p kids) → root_of ws ≡ Some r.root
root_there ws p kids r = ap root_of r.is ∙ root_last r.front r.root

pub root_number_is : (ws : List UnfinishedRequest) (p : Pending) (kids : Forest) → IsTreeOf ws p kids
    → root_number ws ≡ Some p.request.number
root_number_is ws p kids h =
    let r : Rooted ws p kids = rooted ws p kids h in
    ap (option_map (λ (w : UnfinishedRequest). w.request.number)) (root_there ws p kids r)
    ∙ ap (λ (q : Pending). Some q.request.number) r.seen

-- ---- one tree after another

pub trees_forest : (trees : List (List UnfinishedRequest)) (f : Forest) → AreTrees trees f → IsForestOf (joined trees) f
trees_forest [] NoTrees h = refl
trees_forest [] (TreeOf p kids others) h = absurd h
trees_forest (ws ∷ trees) NoTrees h = absurd h
trees_forest (ws ∷ trees) (TreeOf p kids others) h =
    let s : Shape = record { pending = p; unfinished = trees_in kids } in
    map-append shape_of ws (joined trees)
    ∙ (λ i. h.0 i ++ trees_forest trees others h.1 i)
    ∙ append_assoc (shapes kids) (s ∷ []) (shapes others)

pub trees_count : (trees : List (List UnfinishedRequest)) (f : Forest) → AreTrees trees f → length trees ≡ trees_in f
trees_count [] NoTrees h = refl
trees_count [] (TreeOf p kids others) h = absurd h
trees_count (ws ∷ trees) NoTrees h = absurd h
trees_count (ws ∷ trees) (TreeOf p kids others) h = ap suc (trees_count trees others h.1)

pub trees_roots : (trees : List (List UnfinishedRequest)) (f : Forest) → AreTrees trees f → roots_in trees ≡ root_numbers f
trees_roots [] NoTrees h = refl
trees_roots [] (TreeOf p kids others) h = absurd h
trees_roots (ws ∷ trees) NoTrees h = absurd h
trees_roots (ws ∷ trees) (TreeOf p kids others) h =
    ap (λ (o : Option ℕ). number_or o (roots_in trees)) (root_number_is ws p kids h.0)
    ∙ ap (λ (ns : List ℕ). p.request.number ∷ ns) (trees_roots trees others h.1)

-- whole trees are a forest
pub record AreForest (trees : List (List UnfinishedRequest)) : Type 0 where
  pub forest : Forest
  pub are : AreTrees trees forest
  pub rising : RiseEach forest

pub forest_of : (trees : List (List UnfinishedRequest)) → AllByRecursion IsWhole trees → AreForest trees
forest_of [] h = record { forest = NoTrees; are = tt; rising = tt }
forest_of (ws ∷ trees) h =
    let others : AreForest trees = forest_of trees h.1 in
    record {
      forest = TreeOf h.0.root h.0.kids others.forest;
      are = (h.0.is, others.are);
      rising = (h.0.rising.0, h.0.rising.1, others.rising);
    }

-- ---- a request behind the trees of its children

pub tree_over : (trees : List (List UnfinishedRequest)) (f : Forest) (w : UnfinishedRequest) (all : List UnfinishedRequest) → AreTrees trees f
    → w.unfinished ≡ length trees → all ≡ joined trees ++ w ∷ [] → IsTreeOf all (pending_of w) f
tree_over trees f w all h some is =
    let front : IsForestOf (joined trees) f = trees_forest trees f h in
    ap (map shape_of) is ∙ map-append shape_of (joined trees) (w ∷ [])
    ∙ (λ i. front i ++ record { pending = pending_of w; unfinished = (some ∙ trees_count trees f h) i } ∷ [])

pub whole_over : (trees : List (List UnfinishedRequest)) (w : UnfinishedRequest) (all : List UnfinishedRequest) → AreOver trees w
    → all ≡ joined trees ++ w ∷ [] → IsWhole all
whole_over trees w all h is =
    let f : AreForest trees = forest_of trees h.each in
    record {
      root = pending_of w;
      kids = f.forest;
      is = tree_over trees f.forest w all f.are h.count is;
      rising = (subst (RiseFrom 0) (trees_roots trees f.forest f.are) h.rising, f.rising, tt);
    }

pub list_over : (trees : List (List UnfinishedRequest)) (w : UnfinishedRequest) (all : List UnfinishedRequest) → all ≡ joined trees ++ w ∷ []
    → pendings all ≡ pendings (joined trees) ++ pending_of w ∷ []
list_over trees w all is = ap pendings is ∙ map-append pending_of (joined trees) (w ∷ [])

-- ---- the one tree that a whole tree is

pub record OnlyTree (ws : List UnfinishedRequest) : Type 0 where
  pub root : Pending
  pub kids : Forest
  pub is : IsTreeOf ws root kids
  pub list : pendings ws ≡ flat kids ++ root ∷ []
  pub only : (p : Pending) (below : Forest) → IsTreeOf ws p below → (p ≡ root) × (below ≡ kids)

pub only_tree : (ws : List UnfinishedRequest) → IsWhole ws → OnlyTree ws
only_tree ws h = record {
  root = h.root;
  kids = h.kids;
  is = h.is;
  list = forest_flat ws (TreeOf h.root h.kids NoTrees) h.is;
  only = λ p below is. one_tree ws p h.root below h.kids is h.is;
}

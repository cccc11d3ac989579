-- Forests and the lists that they are: a list is one forest at most.
use Rattle.std.proofs.Common.{◌≡◌, ℕ, zero, suc, ◌+◌, List, [], ◌∷◌, ◌++◌, map, refl, sym, ap, ◌∙◌, arith}
use Rattle.std.proofs.lemmas.List.{map-append}
use Rattle.zio_gang.specs.Attempts.{Pending}
use Rattle.zio_trace.specs.Families.{Forest, NoTrees, TreeOf, before, flat}
use Rattle.zio_exchange.specs.declared.waiting.UnfinishedRequest.{UnfinishedRequest}
use Rattle.zio_exchange.specs.Waits.{pending_of, pendings}
use Rattle.zio_exchange.specs.Wholes.{IsForestOf, Shape, shape_of, shapes, trees_in}

-- ---- a list read from its front: the trees that were met and whose parents weren't, the last first

-- trees onto those that were met, one after another
abbrev onto : Forest → Forest → Forest
onto NoTrees met = met
onto (TreeOf p kids others) met = onto others (TreeOf p kids met)

-- the first so many that were met, in their order before others
abbrev taken : ℕ → Forest → Forest → Forest
taken zero met others = others
taken (suc n) NoTrees others = others
taken (suc n) (TreeOf p kids met) others = taken n met (TreeOf p kids others)

abbrev left : ℕ → Forest → Forest
left zero met = met
left (suc n) NoTrees = NoTrees
left (suc n) (TreeOf p kids met) = left n met

abbrev read : Forest → List Shape → Forest
read met [] = met
read met (s ∷ ss) = read (TreeOf s.pending (taken s.unfinished met NoTrees) (left s.unfinished met)) ss

before_none : (f : Forest) → before f NoTrees ≡ f
before_none NoTrees = refl
before_none (TreeOf p kids others) = ap (λ (g : Forest). TreeOf p kids g) (before_none others)

onto_onto : (f met others : Forest) → onto (onto f met) others ≡ onto met (before f others)
onto_onto NoTrees met others = refl
onto_onto (TreeOf p kids more) met others = onto_onto more (TreeOf p kids met) others

more_taken : (n : ℕ) (f met others : Forest) → taken (trees_in f + n) (onto f met) others ≡ taken n met (before f others)
more_taken n NoTrees met others = ap (λ k. taken k met others) (let e : 0 + n ≡ n = omega arith in e)
more_taken n (TreeOf p kids more) met others =
    ap (λ k. taken k (onto more (TreeOf p kids met)) others) (let e : suc (trees_in more) + n ≡ trees_in more + suc n = omega arith in e)
    ∙ more_taken (suc n) more (TreeOf p kids met) others

more_left : (n : ℕ) (f met : Forest) → left (trees_in f + n) (onto f met) ≡ left n met
more_left n NoTrees met = ap (λ k. left k met) (let e : 0 + n ≡ n = omega arith in e)
more_left n (TreeOf p kids more) met =
    ap (λ k. left k (onto more (TreeOf p kids met))) (let e : suc (trees_in more) + n ≡ trees_in more + suc n = omega arith in e)
    ∙ more_left (suc n) more (TreeOf p kids met)

taken_all : (f met : Forest) → taken (trees_in f) (onto f met) NoTrees ≡ f
taken_all f met =
    ap (λ k. taken k (onto f met) NoTrees) (let e : trees_in f ≡ trees_in f + 0 = omega arith in e)
    ∙ more_taken 0 f met NoTrees ∙ before_none f

left_all : (f met : Forest) → left (trees_in f) (onto f met) ≡ met
left_all f met = ap (λ k. left k (onto f met)) (let e : trees_in f ≡ trees_in f + 0 = omega arith in e) ∙ more_left 0 f met

read_append : (met : Forest) (xs ys : List Shape) → read met (xs ++ ys) ≡ read (read met xs) ys
read_append met [] ys = refl
read_append met (x ∷ xs) ys = read_append (TreeOf x.pending (taken x.unfinished met NoTrees) (left x.unfinished met)) xs ys

read_shapes : (met f : Forest) → read met (shapes f) ≡ onto f met
read_shapes met NoTrees = refl
read_shapes met (TreeOf p kids others) =
    let s : Shape = record { pending = p; unfinished = trees_in kids } in
    read_append met (shapes kids) (s ∷ shapes others)
    ∙ ap (λ (g : Forest). read g (s ∷ shapes others)) (read_shapes met kids)
    ∙ (λ i. read (TreeOf p (taken_all kids met i) (left_all kids met i)) (shapes others))
    ∙ read_shapes (TreeOf p kids met) others

again_read : (f : Forest) → onto (read NoTrees (shapes f)) NoTrees ≡ f
again_read f = ap (λ (g : Forest). onto g NoTrees) (read_shapes NoTrees f) ∙ onto_onto f NoTrees NoTrees ∙ before_none f

-- A list is one forest at most.
pub one_forest : (ws : List UnfinishedRequest) (f g : Forest) → IsForestOf ws f → IsForestOf ws g → f ≡ g
one_forest ws f g a b = sym (again_read f) ∙ ap (λ (ss : List Shape). onto (read NoTrees ss) NoTrees) (sym a ∙ b) ∙ again_read g

-- and one tree at most
pub one_tree : (ws : List UnfinishedRequest) (p q : Pending) (below kids : Forest) → IsForestOf ws (TreeOf p below NoTrees)
    → IsForestOf ws (TreeOf q kids NoTrees) → (p ≡ q) × (below ≡ kids)
one_tree ws p q below kids a b =
    let e : TreeOf p below NoTrees ≡ TreeOf q kids NoTrees = one_forest ws (TreeOf p below NoTrees) (TreeOf q kids NoTrees) a b in
    (cc, cc)

-- ---- what the list of a forest has

shapes_flat : (f : Forest) → map (λ (s : Shape). s.pending) (shapes f) ≡ flat f
shapes_flat NoTrees = refl
shapes_flat (TreeOf p kids others) =
    let s : Shape = record { pending = p; unfinished = trees_in kids } in
    map-append (λ (x : Shape). x.pending) (shapes kids) (s ∷ shapes others)
    ∙ (λ i. shapes_flat kids i ++ p ∷ shapes_flat others i)

seen_shapes : (ws : List UnfinishedRequest) → map (λ (s : Shape). s.pending) (map shape_of ws) ≡ pendings ws
seen_shapes [] = refl
seen_shapes (w ∷ ws) = ap (λ (ps : List Pending). pending_of w ∷ ps) (seen_shapes ws)

pub forest_flat : (ws : List UnfinishedRequest) (f : Forest) → IsForestOf ws f → pendings ws ≡ flat f
forest_flat ws f h = sym (seen_shapes ws) ∙ ap (map (λ (s : Shape). s.pending)) h ∙ shapes_flat f

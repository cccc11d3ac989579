-- What a round leaves of families are families, and families make a forest.
use Rattle.std.proofs.Common.{◌≡◌, ℕ, zero, suc, ◌+◌, ◌≤◌, List, [], ◌∷◌, map, Bool, true, false, Option, Some, None, ◌⊎◌, inl, inr, refl, sym, ap, ◌∙◌, subst, arith}
use Rattle.std.specs.List.{AllByRecursion}
use Rattle.zio_types.specs.declared.error.Errno.{Errno}
use Rattle.zio_types.specs.Choices.{Choice}
use Rattle.zio_script.specs.declared.script.Request.{Request}
use Rattle.zio_cksum.specs.Images.{Images}
use Rattle.zio_gang.specs.Attempts.{Pending, Settled, Terms, attempt_with, now_alone, reexecutions_max, settle}
use Rattle.zio_gang.specs.Rounds.{Admitted, Bound, add_left, admission, admit_with, admitted, pending, pending_trees, settle_each}
use Rattle.zio_gang.proofs.FateLemmas.{of_pending, of_trees, tally-append}
use Rattle.zio_trace.specs.Families.{AreUnder, Forest, Grown, NoTrees, Rooted, TreeOf, attempt_forest, attempt_root, flat, root_left}
use Rattle.zio_trace.specs.Keys.{bit, count_in}
use Rattle.zio_trace.specs.Labels.{same_number}
use Rattle.zio_trace.specs.Rounds.{AreTrees, trees_in}
use Rattle.zio_trace.specs.RunTraces.{AreFamilies}
use Rattle.zio_trace.specs.Tasks.{AllEnded, settle_if, settle_left, settle_root}
use Rattle.zio_trace.proofs.GraftLemmas.{IsFamily}
use Rattle.zio_trace.proofs.SettleLemmas.{root_flat, root_under, tree_settles}

-- ---- what is left of a tree

-- nothing is left, or a tree
abbrev IsLeft : List Pending → Type 0
IsLeft left = (left ≡ []) ⊎ IsFamily left

root_is_left : (xs : List Pending) (kids : Forest) (again : List Pending) → flat (root_left xs kids) ≡ again → AreUnder None (root_left xs kids) → IsLeft again
root_is_left [] kids again is under = inl (sym is)
root_is_left (q ∷ qs) kids again is under = inr (record { root = q; kids = kids; under = under; is = is })

left_is_left : (xs : List Pending) (kids : Forest) (r : Rooted) (again : Pending → Forest → Images → AllEnded) → flat (root_left xs kids) ≡ r.again → AreUnder None (root_left xs kids)
    → ((q : Pending) → AreUnder None (TreeOf q kids NoTrees) → IsLeft (again q kids r.images).value.again) → IsLeft (settle_left r (root_left xs kids) again).value.again
left_is_left [] kids r again is under h = inl (sym is)
left_is_left (q ∷ qs) kids r again is under h = h q under

if_is_left : (now : Bool) (r : Rooted) (again : Pending → Forest → Images → AllEnded) → IsLeft r.again → IsLeft (settle_left r r.left again).value.again → IsLeft (settle_if now r again).value.again
if_is_left true r again ended later = later
if_is_left false r again ended later = ended

settle_is_left : (more : ℕ) (j : List Choice) (t : Terms) (attempt : ℕ) (p : Pending) (kids : Forest) (images : Images) → AreUnder None (TreeOf p kids NoTrees) → IsLeft (settle_root more j t attempt p kids images).value.again
settle_is_left zero j t attempt p kids images h =
    let g : Grown = attempt_forest j t attempt kids images in
    root_is_left (attempt_with j t attempt p g.returns g.images).again g.left (attempt_root j t attempt p kids images).again (root_flat j t attempt p kids images) (root_under j t attempt p kids images h)
settle_is_left (suc more) j t attempt p kids images h =
    let g : Grown = attempt_forest j t attempt kids images in
    let r : Rooted = attempt_root j t attempt p kids images in
    let xs : List Pending = (attempt_with j t attempt p g.returns g.images).again in
    if_is_left (now_alone r.return.bits) r (settle_root more j t (attempt + 1)) (root_is_left xs g.left r.again (root_flat j t attempt p kids images) (root_under j t attempt p kids images h))
    (left_is_left xs g.left r (settle_root more j t (attempt + 1)) (root_flat j t attempt p kids images) (root_under j t attempt p kids images h)
    (λ q under. settle_is_left more j t (attempt + 1) q g.left r.images under))

-- ---- families in turn

abbrev pub Families : List (List Pending) → Type 0
Families trees = AllByRecursion IsFamily trees

nothing_left : (p : Pending) (ps : List Pending) → p ∷ ps ≡ [] → ⊥
nothing_left p ps e = cc

left_families : (left : List Pending) (trees : List (List Pending)) → IsLeft left → Families trees → Families (add_left left trees)
left_families [] trees h all = all
left_families (p ∷ ps) trees (inl none) all = absurd (nothing_left p ps none)
left_families (p ∷ ps) trees (inr h) all = (h, all)

tree_left : (j : List Choice) (t : Terms) (tree : List Pending) (images : Images) → IsFamily tree → IsLeft (settle j t tree images).left
tree_left j t tree images h =
    subst (λ (ps : List Pending). IsLeft (settle j t ps images).left) h.is
    (subst (λ (s : Settled). IsLeft s.left) (sym (tree_settles reexecutions_max j t 0 h.root h.kids images h.under)) (settle_is_left reexecutions_max j t 0 h.root h.kids images h.under))

pub each_families : (j : List Choice) (t : Terms) (trees : List (List Pending)) (images : Images) → Families trees → Families (settle_each j t trees images).left
unfolding settle_each
each_families j t [] images h = tt
each_families j t (tree ∷ trees) images h =
    let s : Settled = settle j t tree images in
    left_families s.left (settle_each j t trees s.images).left (tree_left j t tree images h.0) (each_families j t trees s.images h.1)

-- ---- admission

admit_families : (bound : Bound) (birth : ℕ) (e : Option Errno) (tree : List Request) (others : Admitted) → IsFamily (map (pending bound birth) tree) → Families (pending_trees bound birth others.trees)
    → Families (pending_trees bound birth (admit_with e tree others).trees)
admit_families bound birth (Some e) tree others h all = all
admit_families bound birth None tree others h all = (h, all)

pub admitted_families : (bound : Bound) (birth : ℕ) (suspended : List (List Pending)) (is_bound : List ℕ → Bool) (trees : List (List Request)) → AllByRecursion (λ (tree : List Request). IsFamily (map (pending bound birth) tree)) trees
    → Families (pending_trees bound birth (admitted suspended is_bound trees).trees)
admitted_families bound birth suspended is_bound [] h = tt
admitted_families bound birth suspended is_bound (tree ∷ trees) h =
    admit_families bound birth (admission suspended is_bound tree) tree (admitted suspended is_bound trees) h.0 (admitted_families bound birth suspended is_bound trees h.1)

-- ---- the forest of families

abbrev pub numbered : ℕ → Request → ℕ
numbered n r = bit (same_number r.number n)

count_flat : (n : ℕ) (f : Forest) → count_in n f ≡ of_pending (numbered n) (flat f)
count_flat n NoTrees = refl
count_flat n (TreeOf p kids others) =
    omega (arith, count_flat n kids, count_flat n others, tally-append (λ (q : Pending). numbered n q.request) (flat kids) (p ∷ flat others))

count_trees : (n : ℕ) (f : Forest) → count_in n f ≡ of_trees (numbered n) (trees_in f)
count_trees n NoTrees = refl
count_trees n (TreeOf p kids others) =
    omega (arith, count_flat n kids, count_trees n others, tally-append (λ (q : Pending). numbered n q.request) (flat kids) (p ∷ []))

-- the families as one forest
record AreForest (trees : List (List Pending)) : Type 0 where
  forest : Forest
  are : AreTrees forest
  is : trees_in forest ≡ trees

forest_of : (trees : List (List Pending)) → Families trees → AreForest trees
forest_of [] h = record { forest = NoTrees; are = tt; is = refl }
forest_of (tree ∷ trees) h =
    let rest : AreForest trees = forest_of trees h.1 in
    record { forest = TreeOf h.0.root h.0.kids rest.forest; are = (h.0.under, rest.are); is = (λ i. h.0.is i ∷ rest.is i) }

pub families_are : (trees : List (List Pending)) → Families trees → ((n : ℕ) → of_trees (numbered n) trees ≤ 1) → AreFamilies trees
families_are trees h once =
    let f : AreForest trees = forest_of trees h in
    record {
      forest = f.forest;
      are = f.are;
      once = λ n. let e : count_in n f.forest ≡ of_trees (numbered n) trees = count_trees n f.forest ∙ ap (of_trees (numbered n)) f.is in let l : of_trees (numbered n) trees ≤ 1 = once n in omega arith;
      is = f.is;
    }

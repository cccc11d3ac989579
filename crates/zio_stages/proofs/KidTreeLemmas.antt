-- The children of a request as an attempt begins: their trees, and the numbers of the roots.
use Rattle.std.proofs.Common.{◌≡◌, ℕ, zero, suc, ◌+◌, ◌<◌, List, [], ◌∷◌, ◌++◌, length, map, get_or, take, reverse, replicate, Option, Some, None, refl, sym, ap, ◌∙◌, subst, arith, append-nil, Bool, true, false, Result, Ok, Err, is_ok, OnOk}
use Rattle.std.specs.List.{AllByRecursion}
use Rattle.std.proofs.lemmas.List.{length-map, length-reverse, map-append, same_from_push, take_more}
use Rattle.zio_gang.specs.Attempts.{Pending}
use Rattle.zio_trace.specs.Families.{Forest, NoTrees, TreeOf, flat}
use Rattle.zio_children.specs.RequestKids.{Fits, IsDue, KidsUnderWay, RiseFrom, due_kids, fresh_kids, numbers_of}
use Rattle.zio_children.specs.declared.kept.KeptChild.{KeptChild}
use Rattle.zio_exchange.specs.declared.waiting.UnfinishedRequest.{UnfinishedRequest}
use Rattle.zio_exchange.specs.Waits.{pending_of}
use Rattle.zio_exchange.specs.Wholes.{AreOver, AreTrees, IsForestOf, IsTreeOf, IsWhole, Shape, joined, number_or, root_number, roots_in, shape_of, shapes, trees_in}
use Rattle.zio_exchange.proofs.ForestLemmas.{one_forest}
use Rattle.zio_exchange.proofs.WholeLemmas.{AreForest, forest_of, root_number_is, trees_forest, trees_roots}
use Rattle.zio_stages.specs.KidLists.{AreBegun, AreMarked}
use Rattle.zio_stages.specs.KidTrees.{AreHeld, AreLeft, AreNumbered, IsKids, KidsHeld}
use Rattle.zio_stages.proofs.ReverseLemmas.{reverse_first, reverse_twice}

-- ---- the numbers of roots

or_append : (o : Option ℕ) (xs ys : List ℕ) → number_or o (xs ++ ys) ≡ number_or o xs ++ ys
or_append None xs ys = refl
or_append (Some n) xs ys = refl

roots_append : (xs ys : List (List UnfinishedRequest)) → roots_in (xs ++ ys) ≡ roots_in xs ++ roots_in ys
roots_append [] ys = refl
roots_append (x ∷ xs) ys =
    ap (number_or (root_number x)) (roots_append xs ys) ∙ or_append (root_number x) (roots_in xs) (roots_in ys)

or_reverse : (o : Option ℕ) (ns : List ℕ) → reverse ns ++ number_or o [] ≡ reverse (number_or o ns)
or_reverse None ns = append-nil (reverse ns)
or_reverse (Some n) ns = sym (reverse_first n ns)

pub roots_reverse : (xs : List (List UnfinishedRequest)) → roots_in (reverse xs) ≡ reverse (roots_in xs)
roots_reverse [] = refl
roots_reverse (x ∷ xs) =
    ap roots_in (reverse_first x xs) ∙ roots_append (reverse xs) (x ∷ [])
    ∙ ap (λ (ns : List ℕ). ns ++ number_or (root_number x) []) (roots_reverse xs) ∙ or_reverse (root_number x) (roots_in xs)

pub roots_more : (xs : List (List UnfinishedRequest)) (i n : ℕ) (x : List UnfinishedRequest) (numbers after : List ℕ)
    → numbers ≡ roots_in (take i xs) → i < length xs → x ≡ get_or xs i x → root_number x ≡ Some n → after ≡ numbers ++ n ∷ []
    → after ≡ roots_in (take (i + 1) xs)
roots_more xs i n x numbers after h l is root more =
    let one : roots_in (get_or xs i x ∷ []) ≡ n ∷ [] =
    ap (λ (ws : List UnfinishedRequest). number_or (root_number ws) []) (sym is) ∙ ap (λ (o : Option ℕ). number_or o []) root in
    more ∙ (λ j. h j ++ sym one j) ∙ sym (ap roots_in (take_more xs i x l) ∙ roots_append (take i xs) (get_or xs i x ∷ []))

-- ---- the root of a list

-- what stands before the root is the trees under it
pub record Begun (front : List UnfinishedRequest) (root : UnfinishedRequest) (p : Pending) (kids : Forest) : Type 0 where
  pub seen : pending_of root ≡ p
  pub under : IsForestOf front kids
  pub count : root.unfinished ≡ trees_in kids

pub begun : (ws front : List UnfinishedRequest) (root : UnfinishedRequest) (p : Pending) (kids : Forest) → ws ≡ front ++ root ∷ []
    → IsTreeOf ws p kids → Begun front root p kids
begun ws front root p kids is h =
    let s : Shape = record { pending = p; unfinished = trees_in kids } in
    let e : (map shape_of front ≡ shapes kids) × (shape_of root ≡ s) =
    same_from_push (map shape_of front) (shapes kids) (shape_of root) s
    (sym (map-append shape_of front (root ∷ [])) ∙ ap (map shape_of) (sym is) ∙ h) in
    record { seen = ap (λ (x : Shape). x.pending) e.1; under = e.0; count = ap (λ (x : Shape). x.unfinished) e.1 }

-- ---- the trees under it

-- they rise, turned round again
pub due_rise : (w : UnfinishedRequest) (trees due : List (List UnfinishedRequest)) → AreOver trees w → due ≡ reverse trees
    → RiseFrom 0 (roots_in (reverse due))
due_rise w trees due h turned =
    subst (λ (ts : List (List UnfinishedRequest)). RiseFrom 0 (roots_in ts)) (sym (ap reverse turned ∙ reverse_twice trees)) h.rising

pub trees_are : (trees : List (List UnfinishedRequest)) (ws : List UnfinishedRequest) (f : Forest) → AllByRecursion IsWhole trees
    → joined trees ≡ ws → IsForestOf ws f → AreTrees trees f
trees_are trees ws f h is of =
    let g : AreForest trees = forest_of trees h in
    subst (AreTrees trees) (one_forest ws g.forest f (ap (map shape_of) (sym is) ∙ trees_forest trees g.forest g.are) of) g.are

due_numbers : (numbers : List ℕ) → numbers_of (due_kids numbers) ≡ numbers
due_numbers [] = refl
due_numbers (n ∷ numbers) = ap (λ (ns : List ℕ). n ∷ ns) (due_numbers numbers)

roots_count : (trees : List (List UnfinishedRequest)) → AllByRecursion IsWhole trees → length (roots_in trees) ≡ length trees
roots_count [] h = refl
roots_count (ws ∷ trees) h =
    ap (λ (o : Option ℕ). length (number_or o (roots_in trees))) (root_number_is ws h.0.root h.0.kids h.0.is)
    ∙ ap suc (roots_count trees h.1)

none_numbered : (ns : List ℕ) (n : ℕ) → length ns ≡ n → AreNumbered ns (replicate n None)
none_numbered [] zero e = tt
none_numbered [] (suc n) e = absurd (omega (arith, e))
none_numbered (m ∷ ns) zero e = absurd (omega (arith, e))
none_numbered (m ∷ ns) (suc n) e = (tt, none_numbered ns n (omega (arith, e)))

none_left : (n : ℕ) → AreLeft (replicate n None) []
none_left zero = tt
none_left (suc n) = (refl, none_left n)

-- nothing was handed out
abbrev first_held : List (List UnfinishedRequest) → List KeptChild → KidsHeld
first_held trees kept = record { kids = fresh_kids (roots_in trees) kept; due = trees; again = replicate (length trees) None }

first_are_held : (trees : List (List UnfinishedRequest)) (kept : List KeptChild) → AllByRecursion IsWhole trees
    → RiseFrom 0 (roots_in trees) → AreHeld (first_held trees kept)
first_are_held trees kept h rise =
    let same : numbers_of (due_kids (roots_in trees)) ≡ roots_in trees = due_numbers (roots_in trees) in
    record {
      due = sym same;
      each = h;
      again = none_numbered (numbers_of (due_kids (roots_in trees))) (length trees) (ap length same ∙ roots_count trees h);
      rising = subst (RiseFrom 0) (sym same) rise;
    }

first_is_kids : (trees : List (List UnfinishedRequest)) (kept : List KeptChild) (attempt : ℕ) (forest : Forest) → AreTrees trees forest
    → Fits (fresh_kids (roots_in trees) kept) [] → IsKids (first_held trees kept) attempt forest [] []
first_is_kids trees kept attempt forest are fits = record {
  fits = fits;
  roots = sym (trees_roots trees forest are) ∙ sym (due_numbers (roots_in trees));
  all = refl;
  ops = refl;
  due = are;
  left = none_left (length trees);
}

held_is : (due : List (List UnfinishedRequest)) (kept : List KeptChild) (kids : KidsUnderWay) (again : List (Option (List UnfinishedRequest)))
    → kids ≡ fresh_kids (roots_in (reverse due)) kept → again ≡ replicate (length due) None
    → first_held (reverse due) kept ≡ record { kids = kids; due = reverse due; again = again }
held_is due kept kids again ek ea =
    λ i. record { kids = sym ek i; due = reverse due; again = (ap (λ n. replicate n None) (length-reverse due) ∙ sym ea) i }

-- the children's trees are held the last first
pub begun_held : (w : UnfinishedRequest) (trees due : List (List UnfinishedRequest)) (kept : List KeptChild) (kids : KidsUnderWay)
    (again : List (Option (List UnfinishedRequest))) → AreOver trees w → due ≡ reverse trees
    → kids ≡ fresh_kids (roots_in (reverse due)) kept → again ≡ replicate (length due) None
    → AreHeld (record { kids = kids; due = reverse due; again = again })
begun_held w trees due kept kids again h turned ek ea =
    let back : trees ≡ reverse due = sym (ap reverse turned ∙ reverse_twice trees) in
    subst AreHeld (held_is due kept kids again ek ea)
    (first_are_held (reverse due) kept (subst (AllByRecursion IsWhole) back h.each) (due_rise w trees due h turned))

pub begun_kids : (w : UnfinishedRequest) (trees due : List (List UnfinishedRequest)) (kept : List KeptChild) (kids : KidsUnderWay)
    (again : List (Option (List UnfinishedRequest))) (attempt : ℕ) (forest : Forest) → AreOver trees w → due ≡ reverse trees
    → kids ≡ fresh_kids (roots_in (reverse due)) kept → again ≡ replicate (length due) None → Fits kids []
    → IsForestOf (joined trees) forest → IsKids (record { kids = kids; due = reverse due; again = again }) attempt forest [] []
begun_kids w trees due kept kids again attempt forest h turned ek ea fits of =
    let back : trees ≡ reverse due = sym (ap reverse turned ∙ reverse_twice trees) in
    subst (λ (x : KidsHeld). IsKids x attempt forest [] []) (held_is due kept kids again ek ea)
    (first_is_kids (reverse due) kept attempt forest
    (subst (λ (ts : List (List UnfinishedRequest)). AreTrees ts forest) back (trees_are trees (joined trees) forest h.each refl of))
    (subst (λ (x : KidsUnderWay). Fits x []) ek fits))

fresh_marked : (ns : List ℕ) (n : ℕ) → length ns ≡ n → AreMarked (due_kids ns) (replicate n None)
fresh_marked [] zero e = tt
fresh_marked [] (suc n) e = absurd (omega (arith, e))
fresh_marked (m ∷ ns) zero e = absurd (omega (arith, e))
fresh_marked (m ∷ ns) (suc n) e = (refl, fresh_marked ns n (omega (arith, e)))

fresh_due : (ns : List ℕ) → AllByRecursion IsDue (due_kids ns)
fresh_due [] = tt
fresh_due (n ∷ ns) = (refl, fresh_due ns)

first_begun : (w : UnfinishedRequest) (trees : List (List UnfinishedRequest)) (kept : List KeptChild) → AllByRecursion IsWhole trees → length trees ≡ w.unfinished
    → AreBegun w (first_held trees kept)
first_begun w trees kept h count =
    let same : length (due_kids (roots_in trees)) ≡ length (roots_in trees) = length-map (roots_in trees) _ in
    record { count = same ∙ roots_count trees h ∙ count; marked = fresh_marked (roots_in trees) (length trees) (roots_count trees h); handed = fresh_due (roots_in trees) }

pub are_begun : (w : UnfinishedRequest) (trees due : List (List UnfinishedRequest)) (kept : List KeptChild) (kids : KidsUnderWay)
    (again : List (Option (List UnfinishedRequest))) → AreOver trees w → due ≡ reverse trees
    → kids ≡ fresh_kids (roots_in (reverse due)) kept → again ≡ replicate (length due) None
    → AreBegun w (record { kids = kids; due = reverse due; again = again })
are_begun w trees due kept kids again h turned ek ea =
    let back : trees ≡ reverse due = sym (ap reverse turned ∙ reverse_twice trees) in
    subst (AreBegun w) (held_is due kept kids again ek ea)
    (first_begun w (reverse due) kept (subst (AllByRecursion IsWhole) back h.each) (sym (h.count ∙ ap length back)))

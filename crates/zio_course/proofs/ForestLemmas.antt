-- The trees of a batch, put together from its front, are those that are made from its back.
use Rattle.std.proofs.Common.{◌≡◌, ℕ, ◌<◌, List, [], ◌∷◌, ◌++◌, map, Bool, true, false, Option, Some, None, eqb, eqb-true, refl, sym, ap, ◌∙◌, subst, append_assoc, arith}
use Rattle.std.proofs.lemmas.Bool.{false_from_ne_true}
use Rattle.std.proofs.lemmas.List.{append-nil, map-append}
use Rattle.std.specs.List.{AllByRecursion, flat_map}
use Rattle.zio_script.specs.declared.script.Request.{Request}
use Rattle.zio_script.specs.Accepted.{AreRising}
use Rattle.zio_gang.specs.Rounds.{put_before, put_if, trees_of, with_request, with_requests}
use Rattle.zio_course.specs.Forests.{add_tree_if, joined, same_parent, trees_under}

-- ---- numbers that differ

abbrev pub Below : ℕ → List Request → Type 0
Below n rs = AllByRecursion (λ (r : Request). n < r.number) rs

-- no number stands twice
abbrev pub Differ : List Request → Type 0
Differ [] = Unit {0}
Differ (q ∷ qs) = AllByRecursion (λ (x : Request). eqb x.number q.number ≡ false) qs × Differ qs

pub above_apart : (n m : ℕ) → n < m → eqb m n ≡ false
above_apart n m h = false_from_ne_true (eqb m n) (λ e. let same : m ≡ n = eqb-true m n e in omega arith)

pub below_apart : (n m : ℕ) → n < m → eqb n m ≡ false
below_apart n m h = false_from_ne_true (eqb n m) (λ e. let same : n ≡ m = eqb-true n m e in omega arith)

pub all_then : {X : Type 0} (P Q : X → Type 0) (xs : List X) → ((x : X) → P x → Q x) → AllByRecursion P xs → AllByRecursion Q xs
all_then P Q [] f h = tt
all_then P Q (x ∷ xs) f h = (f x h.0, all_then P Q xs f h.1)

all_put_if : (P : Request → Type 0) (b : Bool) (r q : Request) (qs placed : List Request) → P r → P q → AllByRecursion P qs → AllByRecursion P placed
    → AllByRecursion P (put_if b r q qs placed)
all_put_if P true r q qs placed pr pq pqs h = (pr, (pq, pqs))
all_put_if P false r q qs placed pr pq pqs h = (pq, h)

pub all_put : (P : Request → Type 0) (p : ℕ) (r : Request) (tree : List Request) → P r → AllByRecursion P tree → AllByRecursion P (put_before p r tree)
all_put P p r [] pr h = tt
all_put P p r (q ∷ qs) pr h = all_put_if P (eqb q.number p) r q qs (put_before p r qs) pr h.0 h.1 (all_put P p r qs pr h.1)

differ_if : (b : Bool) (r q : Request) (qs placed : List Request) → AllByRecursion (λ (x : Request). eqb x.number r.number ≡ false) (q ∷ qs)
    → Differ (q ∷ qs) → AllByRecursion (λ (x : Request). eqb x.number q.number ≡ false) placed → Differ placed → Differ (put_if b r q qs placed)
differ_if true r q qs placed others differ apart later = (others, differ)
differ_if false r q qs placed others differ apart later = (apart, later)

differ_put : (p : ℕ) (r : Request) (tree : List Request) → AllByRecursion (λ (q : Request). q.number < r.number) tree → Differ tree → Differ (put_before p r tree)
differ_put p r [] lower differ = tt
differ_put p r (q ∷ qs) lower differ =
    differ_if (eqb q.number p) r q qs (put_before p r qs)
    (all_then (λ (x : Request). x.number < r.number) (λ (x : Request). eqb x.number r.number ≡ false) (q ∷ qs) (λ x h. below_apart x.number r.number h) lower)
    differ
    (all_put (λ (x : Request). eqb x.number q.number ≡ false) p r qs (above_apart q.number r.number lower.0) differ.0)
    (differ_put p r qs lower.1 differ.1)

-- a tree whose numbers differ and are below those of the requests that come
abbrev pub Good : List Request → List Request → Type 0
Good rs tree = AllByRecursion (λ (q : Request). Below q.number rs) tree × Differ tree

pub good_less : (r : Request) (rs : List Request) (trees : List (List Request)) → AllByRecursion (Good (r ∷ rs)) trees → AllByRecursion (Good rs) trees
good_less r rs trees h =
    all_then (Good (r ∷ rs)) (Good rs) trees
    (λ tree g. (all_then (λ (q : Request). Below q.number (r ∷ rs)) (λ (q : Request). Below q.number rs) tree (λ q b. b.1) g.0, g.1)) h

pub good_push : (r : Request) (rs : List Request) (trees : List (List Request)) → Below r.number rs → AllByRecursion (Good rs) trees
    → AllByRecursion (Good rs) (trees ++ (r ∷ []) ∷ [])
good_push r rs [] below h = (((below, tt), (tt, tt)), tt)
good_push r rs (t ∷ trees) below h = (h.0, good_push r rs trees below h.1)

pub good_put : (p : ℕ) (r : Request) (rs : List Request) (trees : List (List Request)) → Below r.number rs → AllByRecursion (Good (r ∷ rs)) trees
    → AllByRecursion (Good rs) (map (put_before p r) trees)
good_put p r rs [] below h = tt
good_put p r rs (t ∷ trees) below h = (
  (
    all_put (λ (q : Request). Below q.number rs) p r t below
        (all_then (λ (q : Request). Below q.number (r ∷ rs)) (λ (q : Request). Below q.number rs) t (λ q b. b.1) h.0.0),
    differ_put p r t (all_then (λ (q : Request). Below q.number (r ∷ rs)) (λ (q : Request). q.number < r.number) t (λ q b. b.0) h.0.0) h.0.1,
  ),
  good_put p r rs trees below h.1,
)

-- ---- trees that grow

-- a request behind the trees of its children among those that come
abbrev over : List Request → Request → List Request
over rs q = joined (trees_under rs (Some q.number)) ++ q ∷ []

-- a tree with those that come
abbrev grown : List Request → List Request → List Request
grown rs tree = flat_map (over rs) tree

over_not : (r : Request) (rs : List Request) (q : Request) → same_parent r.under (Some q.number) ≡ false → over (r ∷ rs) q ≡ over rs q
over_not r rs q e = ap (λ (b : Bool). joined (add_tree_if b (over rs r) (trees_under rs (Some q.number))) ++ q ∷ []) e

over_yes : (r : Request) (rs : List Request) (q : Request) → same_parent r.under (Some q.number) ≡ true → over (r ∷ rs) q ≡ over rs r ++ over rs q
over_yes r rs q e =
    ap (λ (b : Bool). joined (add_tree_if b (over rs r) (trees_under rs (Some q.number))) ++ q ∷ []) e
    ∙ append_assoc (over rs r) (joined (trees_under rs (Some q.number))) (q ∷ [])

grown_not : (r : Request) (rs : List Request) (tree : List Request) → AllByRecursion (λ (q : Request). same_parent r.under (Some q.number) ≡ false) tree
    → grown (r ∷ rs) tree ≡ grown rs tree
grown_not r rs [] h = refl
grown_not r rs (q ∷ qs) h =
    ap (λ (xs : List Request). xs ++ grown (r ∷ rs) qs) (over_not r rs q h.0) ∙ ap (λ (xs : List Request). over rs q ++ xs) (grown_not r rs qs h.1)

parent_is : (r : Request) (p n : ℕ) (b : Bool) → r.under ≡ Some p → eqb n p ≡ b → same_parent r.under (Some n) ≡ b
parent_is r p n b e is = ap (λ (u : Option ℕ). same_parent u (Some n)) e ∙ is

put_grown_if : (b : Bool) (p : ℕ) (r : Request) (rs : List Request) (q : Request) (qs placed : List Request) → eqb q.number p ≡ b → r.under ≡ Some p
    → AllByRecursion (λ (x : Request). eqb x.number q.number ≡ false) qs → grown rs placed ≡ grown (r ∷ rs) qs
    → grown rs (put_if b r q qs placed) ≡ grown (r ∷ rs) (q ∷ qs)
put_grown_if true p r rs q qs placed is e apart later =
    let same : q.number ≡ p = eqb-true q.number p is in
    let none : AllByRecursion (λ (x : Request). same_parent r.under (Some x.number) ≡ false) qs =
    all_then (λ (x : Request). eqb x.number q.number ≡ false) (λ (x : Request). same_parent r.under (Some x.number) ≡ false) qs
    (λ x h. parent_is r p x.number false e (subst (λ (n : ℕ). eqb x.number n ≡ false) same h)) apart in
    sym (append_assoc (over rs r) (over rs q) (grown rs qs))
    ∙ (ap (λ (xs : List Request). xs ++ grown rs qs) (sym (over_yes r rs q (parent_is r p q.number true e is)))
    ∙ ap (λ (xs : List Request). over (r ∷ rs) q ++ xs) (sym (grown_not r rs qs none)))
put_grown_if false p r rs q qs placed is e apart later =
    ap (λ (xs : List Request). over rs q ++ xs) later
    ∙ ap (λ (xs : List Request). xs ++ grown (r ∷ rs) qs) (sym (over_not r rs q (parent_is r p q.number false e is)))

put_grown : (p : ℕ) (r : Request) (rs tree : List Request) → r.under ≡ Some p → Differ tree → grown rs (put_before p r tree) ≡ grown (r ∷ rs) tree
put_grown p r rs [] e differ = refl
put_grown p r rs (q ∷ qs) e differ =
    put_grown_if (eqb q.number p) p r rs q qs (put_before p r qs) refl e differ.0 (put_grown p r rs qs e differ.1)

puts_grown : (p : ℕ) (r : Request) (rs : List Request) (trees : List (List Request)) → r.under ≡ Some p → AllByRecursion (Good (r ∷ rs)) trees
    → map (grown rs) (map (put_before p r) trees) ≡ map (grown (r ∷ rs)) trees
puts_grown p r rs [] e h = refl
puts_grown p r rs (t ∷ trees) e h =
    ap (λ (x : List Request). x ∷ map (grown rs) (map (put_before p r) trees)) (put_grown p r rs t e h.0.1)
    ∙ ap (λ (xs : List (List Request)). grown (r ∷ rs) t ∷ xs) (puts_grown p r rs trees e h.1)

roots_grown : (r : Request) (rs : List Request) (trees : List (List Request)) → r.under ≡ None → map (grown (r ∷ rs)) trees ≡ map (grown rs) trees
roots_grown r rs [] e = refl
roots_grown r rs (t ∷ trees) e =
    ap (λ (x : List Request). x ∷ map (grown (r ∷ rs)) trees) (grown_not r rs t (none_under t))
    ∙ ap (λ (xs : List (List Request)). grown rs t ∷ xs) (roots_grown r rs trees e)
  where
    none_under : (tree : List Request) → AllByRecursion (λ (q : Request). same_parent r.under (Some q.number) ≡ false) tree
    none_under [] = tt
    none_under (q ∷ qs) = (ap (λ (u : Option ℕ). same_parent u (Some q.number)) e, none_under qs)

grow_step : (r : Request) (rs : List Request) (trees : List (List Request)) (under : Option ℕ) → r.under ≡ under
    → ((next : List (List Request)) → AllByRecursion (Good rs) next → with_requests rs next ≡ map (grown rs) next ++ trees_under rs None)
    → Below r.number rs → AllByRecursion (Good (r ∷ rs)) trees
    → with_requests rs (with_request under r trees) ≡ map (grown (r ∷ rs)) trees ++ add_tree_if (same_parent under None) (over rs r) (trees_under rs None)
grow_step r rs trees None e later below good =
    later (trees ++ (r ∷ []) ∷ []) (good_push r rs trees below (good_less r rs trees good))
    ∙ (ap (λ (xs : List (List Request)). xs ++ trees_under rs None) (map-append (grown rs) trees ((r ∷ []) ∷ []))
    ∙ (append_assoc (map (grown rs) trees) (grown rs (r ∷ []) ∷ []) (trees_under rs None)
    ∙ (ap (λ (x : List Request). map (grown rs) trees ++ x ∷ trees_under rs None) (append-nil (over rs r))
    ∙ ap (λ (xs : List (List Request)). xs ++ over rs r ∷ trees_under rs None) (sym (roots_grown r rs trees e)))))
grow_step r rs trees (Some p) e later below good =
    later (map (put_before p r) trees) (good_put p r rs trees below good)
    ∙ ap (λ (xs : List (List Request)). xs ++ trees_under rs None) (puts_grown p r rs trees e good)

grown_none : (tree : List Request) → tree ≡ grown [] tree
grown_none [] = refl
grown_none (q ∷ qs) = ap (λ (xs : List Request). q ∷ xs) (grown_none qs)

all_grown_none : (trees : List (List Request)) → trees ≡ map (grown []) trees
all_grown_none [] = refl
all_grown_none (t ∷ trees) =
    ap (λ (x : List Request). x ∷ trees) (grown_none t) ∙ ap (λ (xs : List (List Request)). grown [] t ∷ xs) (all_grown_none trees)

grow : (rs : List Request) (trees : List (List Request)) → AreRising rs → AllByRecursion (Good rs) trees
    → with_requests rs trees ≡ map (grown rs) trees ++ trees_under rs None
grow [] trees rising good = all_grown_none trees ∙ sym (append-nil (map (grown []) trees))
grow (r ∷ rs) trees rising good = grow_step r rs trees r.under refl (λ next h. grow rs next rising.1 h) rising.0 good

-- where numbers rise, the trees of a batch are those of its roots
pub trees_from_back : (batch : List Request) → AreRising batch → trees_of batch ≡ trees_under batch None
trees_from_back batch rising = grow batch [] rising tt
